use Prim.Native.Nat.{ℕ, ◌^◌, min}
use mathlib.Core.Path.{◌≡◌}
use lib.ListN.{drop}
use Rattle.model.specs.Numbers.{digits_from}
use Rattle.numbers.proofs.reading.read_digits.Given as goal

abbrev pub invariant-loop-i : goal.invariant-loop-i
invariant-loop-i l = (e : ℕ) × (l.n ≡ min (2 ^ 30) e) × (digits_from 0 l.digits ≡ digits_from e (drop l.i l.digits))
