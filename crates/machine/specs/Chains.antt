-- Lists of calls of grant, known by their arguments, their answers and their contract alone.
use Rattle.std.specs.Prelude.{List, [], ◌∷◌}
use Rattle.model.specs.Calls.{Held, environment_for, Granted, held_after}
use Rattle.model.specs.Grants.{Call}
use Rattle.model.specs.Step.{Environment}
use Rattle.machine.specs.CallContracts.{GrantIs}

-- From the record and memory `h`: the calls, what each answered and left in its buffers, and the record and memory after the last one.
-- Each has the parameters of its record, and "gets the record and memory that the one before it left and the same program and input, and nobody else writes these meanwhile".
pub data Chain (e : Environment) : (h : Held) → List Call → List Granted → (last : Held) → Type 0 where
  nothing : {h : Held} → Chain e h [] [] h
  called : {h last : Held} {c : Call} {x : Granted} {cs : List Call} {xs : List Granted} →
      GrantIs (environment_for e h) h c x →
      Chain e (held_after x) cs xs last →
      Chain e h (c ∷ cs) (x ∷ xs) last
