-- What the code makes of two values that it reads out of 32 bits. Assumes nothing.
use mathlib.Core.Path.{◌≡◌}
use mathlib.Core.Bool.{Bool, ◌&&◌, cond}
use lib.IntN.{ℤ}
use mir.Facts.{to_z-of_z}
use mir.Syntax.{w32}
use mir.Val.{SFits, to_z, of_z}
use Rattle.model.specs.Parameters.{is_true, is_boolean, boolean_of}
use Rattle.model.specs.Arithmetic.{Answer, value, code, logic}

abbrev read : ℤ → ℤ
read z = to_z w32 (of_z w32 z)

module _ {x y : ℤ} (fx : SFits w32 x) (fy : SFits w32 y) where
  -- f of the truth of both.
  pub combine : (f : Bool → Bool → Bool) {a b : Bool} {r : Answer} → a ≡ is_true (read x) → b ≡ is_true (read y) →
      r ≡ cond (is_boolean (read x) && is_boolean (read y)) (value (boolean_of (f a b))) (code 1) → r ≡ logic f x y
  unfolding logic
  combine f a b h = rw (a, b, to_z-of_z fx, to_z-of_z fy) at h
