-- The record of an accepted call fits a slice of 64-bit numbers. Assumes nothing.
use mathlib.Core.Path.{◌≡◌, refl, sym, ◌∙◌}
use native.Mathlib.Omega.{arith}
use mathlib.Core.List.{List}
use lib.IntN.{ℤ}
use Rattle.model.proofs.Fits.{grant-accepted}
use Rattle.model.proofs.GrantKeeps.{grant-kept}
use Rattle.model.specs.Calls.{Held, environment_for, Started, started, account_of, Granted, granted, outcome_number}
use Rattle.model.specs.Grants.{Call}
use Rattle.model.specs.Replies.{grant_answer}
use Rattle.model.specs.Step.{Environment, Memory}
use Rattle.model.specs.declared.AcceptedGrant.{AcceptedGrant}
use Rattle.std.specs.Prelude.{Ok}
use Rattle.machine.specs.CallContracts.{StartIs, GrantIs}
use Rattle.tak.specs.Records.{Narrow}
use Rattle.std.proofs.Common.{rules}

-- Start's record has these fields at 0, accepted or refused.
module _ (e : Environment) (m : Memory) where
  started_narrow : Narrow (started e m).reply.rec
  unfolding started
  started_narrow = search rules

  pub start_narrow : {x : Started} → StartIs e m x → Narrow x.reply.rec
  start_narrow s = rw s.given started_narrow

-- An accepted grant leaves at most 10^15 in granted and spent, and a place of the input, which has at most 65,536 bytes.
pub grant_narrow : (e : Environment) (held : Held) (c : Call) {x : Granted} → GrantIs e held c x → outcome_number x.reply.outcome ≡ 0 →
    Narrow x.reply.rec
unfolding granted
grant_narrow e held c g h =
    let z = sym g.number ∙ h in
    let s = (grant-kept (environment_for e held) (account_of held) c z).sound in
    let l = (grant-accepted (environment_for e held) (account_of held) c z).input-length in
    rw g.given
    (record {
      place = omega (arith, s.state.place, l);
      granted = omega (arith, s.granted);
      spent = omega (arith, s.spent, s.granted);
    })

pub accepted_narrow : (e : Environment) (held : Held) (c : Call) (g : AcceptedGrant) (after : Memory) (out : List ℤ) →
    GrantIs e held c (record { reply = grant_answer held.rec (Ok g); memory = after; slice = out }) → Narrow g.rec
unfolding outcome_number
accepted_narrow e held c g after out is = grant_narrow e held c is refl
