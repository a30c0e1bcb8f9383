use Prim.Native.Nat.{ℕ, ◌*◌}
use mathlib.Core.Bool.{true, false}
use mathlib.Core.Path.{◌≡◌, ◌∙◌}
use native.Mathlib.Omega.{arith}
use lib.IntN.{ℤ, pos, neg_ℤ, ◌+ℤ◌, ◌-ℤ◌}
use lib.Signed.{lt_z, le_z}
use mir.Facts.{to_z-of_z}
use mir.Syntax.{w32, w64}
use mir.Val.{SFits, to_z, of_z}
use Rattle.model.specs.Arithmetic.{shift_left}
use Rattle.model.proofs.Ranges.{shift-left-mag}
use Rattle.bounds.specs.Bounds.{IsLimit, Within}
use Rattle.bounds.proofs.Integers.{mag_neg-pos, widen, zero_minus}
use Rattle.bounds.proofs.LimitLaws.{one, at_most, within-fits}
use Rattle.bitwise.proofs.BitLaws.{double-below, double_above, double-inside}
use Rattle.bitwise.proofs.bits.rsl.Goals as goal

-- What the code reads out of 64 bits, and hands back in 32.
abbrev wide : ℤ → ℤ
wide z = to_z w64 (of_z w64 z)

abbrev back : ℤ → ℤ
back z = to_z w32 (of_z w32 z)

-- The double, M and 2^K in 64 bits.
module _ {m : ℕ} {x t top full : ℤ} (l : IsLimit m) (h : Within m x) (fx : SFits w32 x) (ft : SFits w64 t) (t_is : t ≡ back x +ℤ back x)
    (top_is : top ≡ pos m) (full_is : full ≡ pos (2 * m)) where
  twice : wide t ≡ x +ℤ x
  twice = to_z-of_z ft ∙ rw (to_z-of_z fx) at t_is

  limit : wide top ≡ pos m
  limit = rw top_is (to_z-of_z {w = w64} (record { sfits = omega (arith, at_most l) }))

  circle : wide full ≡ pos (2 * m)
  circle = rw full_is (to_z-of_z {w = w64} (record { sfits = omega (arith, at_most l) }))

  low : wide (pos 0 -ℤ wide top) ≡ neg_ℤ (pos m)
  low = rw (limit, zero_minus (pos m)) (to_z-of_z {w = w64} (record { sfits = omega (arith, at_most l, mag_neg-pos m) }))

  fits : SFits w32 (shift_left m x)
  fits = within-fits l (shift-left-mag m (one l) x)

  below : lt_z (wide t) (wide (pos 0 -ℤ wide top)) ≡ true → back (wide (wide t +ℤ wide full)) ≡ shift_left m x
  below p = rw (twice, circle, double-below m x h (rw (twice, low) at p), to_z-of_z (widen fits)) (to_z-of_z fits)

  above : le_z (wide top) (wide t) ≡ true → back (wide (wide t -ℤ wide full)) ≡ shift_left m x
  above p = rw (twice, circle, double_above m x h (rw (twice, limit) at p), to_z-of_z (widen fits)) (to_z-of_z fits)

  inside : lt_z (wide t) (wide (pos 0 -ℤ wide top)) ≡ false → le_z (wide top) (wide t) ≡ false → back (wide t) ≡ shift_left m x
  inside p q = rw (twice, double-inside m x h (rw (twice, low) at p) (rw (twice, limit) at q)) (to_z-of_z fits)

pub overflow_mul-m : goal.overflow_mul-m
overflow_mul-m c = record { fits = omega (arith, at_most c.requires.limit) }

pub returns-then-twice-top-clause-value : goal.returns-then-twice-top-clause-value
returns-then-twice-top-clause-value c =
    below c.requires.limit c.requires.within c.ranges.x (record { sfits = c.double-twice.type_inv }) c.double-twice.ensures c.from-top.ensures c.from-full.ensures
    c.if-twice-top.true

pub returns-then-top-twice-clause-value : goal.returns-then-top-twice-clause-value
returns-then-top-twice-clause-value c =
    above c.requires.limit c.requires.within c.ranges.x (record { sfits = c.double-twice.type_inv }) c.double-twice.ensures c.from-top.ensures c.from-full.ensures
    c.if-top-twice.true

pub returns-clause-value : goal.returns-clause-value
returns-clause-value c =
    inside c.requires.limit c.requires.within c.ranges.x (record { sfits = c.double-twice.type_inv }) c.double-twice.ensures c.from-top.ensures c.from-full.ensures
    c.if-twice-top.false c.if-top-twice.false
