-- REQUEST E1 of the code's own calls: of every call of grant that met its contract, on any record and memory, in a chain or not.
-- What it is after a whole list is a field of `Demand3`. Assumes nothing.
use Prim.Native.Nat.{ℕ, zero, suc}
use mathlib.Core.Path.{◌≡◌, refl, sym, ap, ◌∙◌}
use Rattle.model.proofs.GrantKeeps.{grant-deepest}
use Rattle.model.proofs.Refusals.{grant-refused}
use Rattle.model.specs.Calls.{Held, environment_for, account_of, grant_refusal, Granted, outcome_number}
use Rattle.model.specs.Demand.{KeepsDeepest}
use Rattle.model.specs.Grants.{Call}
use Rattle.model.specs.Step.{Environment}
use Rattle.machine.specs.CallContracts.{GrantIs}

pub call-deepest : (e : Environment) (h : Held) (c : Call) (x : Granted) → GrantIs e h c x → outcome_number x.reply.outcome ≡ 0 →
    KeepsDeepest e h x
call-deepest e h c x g accepted = rw g.given (grant-deepest e h c (sym g.number ∙ accepted))

-- A refused one hands back the record that it was given, the deepest SHR with it.
pub call-refused : (e : Environment) (h : Held) (c : Call) (x : Granted) → GrantIs e h c x → ¬ (outcome_number x.reply.outcome ≡ 0) →
    x.reply.rec ≡ h.rec
call-refused e h c x g refused = go (grant_refusal (environment_for e h) (account_of h) c) refl
  where
    go : (n : ℕ) → grant_refusal (environment_for e h) (account_of h) c ≡ n → x.reply.rec ≡ h.rec
    go zero q = absurd (refused (g.number ∙ q))
    go (suc k) q = ap (λ (y : Granted). y.reply.rec) (g.given ∙ grant-refused e h c k q)
