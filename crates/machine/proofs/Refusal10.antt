-- REFUSAL 10 of the code's own calls, in the paper's words: of every call of start and of grant that met its contract. Assumes nothing.
use mathlib.Core.List.{append_assoc}
use mathlib.Core.Path.{refl}
use Rattle.model.proofs.Refusals.{start-number, grant-number}
use Rattle.model.specs.Calls.{Held, environment_for, Started, started, start_checks, account_of, Granted, granted, grant_checks, grant_refusal, outcome_number}
use Rattle.model.specs.Grants.{Call}
use Rattle.model.specs.Parameters.{refusal_of}
use Rattle.model.specs.Step.{Environment, Memory}
use Rattle.listing.proofs.Refusal10.{sized_gives_10, sized_unless_10}
use Rattle.machine.specs.CallContracts.{StartIs, GrantIs}
use Rattle.machine.specs.Refusal10.{Refusal10}

-- START
module _ (e : Environment) (m : Memory) where
  checked_10 : Refusal10 e m (refusal_of (start_checks e m))
  unfolding start_checks
  checked_10 = record { given = sized_gives_10 e m _ refl; otherwise = sized_unless_10 e m _ refl }

  pub started_10 : Refusal10 e m (started e m).reply.refusal
  started_10 = rw (start-number e m) checked_10

  pub start_10 : {x : Started} → StartIs e m x → Refusal10 e m x.reply.refusal
  start_10 s = rw s.given started_10

-- GRANT
module _ (e : Environment) (held : Held) (c : Call) where
  abbrev own : Environment
  own = environment_for e held

  granting_10 : Refusal10 own held.memory (grant_refusal own (account_of held) c)
  unfolding grant_refusal grant_checks start_checks
  granting_10 =
      rw append_assoc
      (record { given = sized_gives_10 own held.memory _ refl; otherwise = sized_unless_10 own held.memory _ refl })

  pub granted_10 : Refusal10 own held.memory (outcome_number (granted e held c).reply.outcome)
  granted_10 = rw (grant-number e held c) granting_10

  pub grant_10 : {x : Granted} → GrantIs e held c x → Refusal10 own held.memory (outcome_number x.reply.outcome)
  grant_10 g = rw g.number granting_10
