-- Refusal 10 of the calls for C, in the paper's words: of every call that met its contract with a record slice of the right length. Assumes nothing.
use mathlib.Core.Path.{◌≡◌}
use lib.ListN.{length}
use borrow.Author.Tests.{eq-eqb}
use Rattle.model.specs.Calls.{environment_for}
use Rattle.model.specs.Grants.{Call}
use Rattle.model.specs.Step.{Environment}
use Rattle.machine.proofs.Refusal10.{started_10, granted_10}
use Rattle.machine.specs.Refusal10.{Refusal10}
use Rattle.tak.specs.Records.{record_length}
use Rattle.tak.specs.Calls.{Slices, held_in, StartCall, tak_start, GrantCall, tak_grant}

module _ (e : Environment) (s : Slices) (h : length s.fields ≡ record_length) where
  pub start_10 : (x : StartCall) → tak_start e s ≡ x → Refusal10 e s.memory x.number
  unfolding tak_start
  start_10 x is = rw (← is, eq-eqb (length s.fields) record_length h) (started_10 e s.memory)

  pub grant_10 : (c : Call) (x : GrantCall) → tak_grant e s c ≡ x → Refusal10 (environment_for e (held_in s)) s.memory x.number
  unfolding tak_grant
  grant_10 c x is = rw (← is, eq-eqb (length s.fields) record_length h) (granted_10 e (held_in s) c)
