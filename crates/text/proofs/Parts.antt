-- A part of a text as a walk meets it. Assumes nothing.
use Prim.Native.Nat.{ℕ, ◌-◌, ◌≤◌}
use mathlib.Core.Path.{◌≡◌}
use mathlib.Core.List.{List}
use native.Mathlib.Omega.{arith}
use lib.ListN.{length, drop, length-drop}
use lib.Seq.{length-take-le}
use Rattle.text.specs.Parts.{part}

-- Its length.
pub part_length : (a i : ℕ) (t : List ℕ) → i ≤ length t → length (part a i t) ≡ i - a
part_length a i t h = length-take-le (i - a) (drop a t) (omega (arith, length-drop a t))
