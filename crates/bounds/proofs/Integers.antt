-- Laws about ℤ: bounds on `mag` of the operations, what follows for the signed widths, and tests. Assumes nothing.
use Prim.Native.Nat.{ℕ, zero, suc, ◌+◌, ◌-◌, ◌/◌, ◌^◌, ◌≤◌, ◌<◌}
use mathlib.Core.Path.{◌≡◌, refl, sym, ap, ◌∙◌}
use mathlib.Core.Bool.{Bool, true, false}
use native.Mathlib.Nat.{div-le_self, lt_of_le_of_lt}
use native.Mathlib.Omega.{arith}
use lib.Dec.{eqb, ltb}
use lib.IntN.{ℤ, pos, negsuc, neg_ℤ, sub_ℕ, ◌+ℤ◌, ◌-ℤ◌, +ℤ_idl}
use lib.Signed.{mag, quot_z}
use borrow.Author.Tests.{le-ltb, lt-ltb, eqb-true, eqb-false, eq-eqb, ne_eqb}
use mir.Syntax.{Width, w32, w64}
use mir.Val.{SFits, hbits, to_z, of_z}
use mir.Facts.{to_z-of_z, to_z_pos, sfits_widen}
use Rattle.model.specs.Parameters.{eq_z}
use Rattle.model.proofs.Fits.{by_cond}

-- BOUNDS
pub mag_neg-pos : (n : ℕ) → mag (neg_ℤ (pos n)) ≤ n
mag_neg-pos zero = omega arith
mag_neg-pos (suc n) = omega arith

pub mag_neg : (z : ℤ) → mag (neg_ℤ z) ≤ suc (mag z)
mag_neg (pos n) = let h = mag_neg-pos n in omega arith
mag_neg (negsuc n) = omega arith

mag_sub : (a b : ℕ) → mag (sub_ℕ a b) ≤ a + b
mag_sub a b = by_cond (λ (z : ℤ). mag z ≤ a + b) (ltb a b) (negsuc (b - suc a)) (pos (a - b)) (λ h. omega arith) (λ h. omega arith)

pub mag_add : (x y : ℤ) → mag (x +ℤ y) ≤ suc (mag x + mag y)
mag_add (pos a) (pos b) = omega arith
mag_add (pos a) (negsuc b) = let h = mag_sub a (suc b) in omega arith
mag_add (negsuc a) (pos b) = let h = mag_sub b (suc a) in omega arith
mag_add (negsuc a) (negsuc b) = omega arith

pub mag-minus : (x y : ℤ) → mag (x -ℤ y) ≤ suc (mag x + suc (mag y))
mag-minus x y = let h = mag_add x (neg_ℤ y) in let k = mag_neg y in omega arith

pub mag_quot : (x y : ℤ) → mag (quot_z x y) ≤ suc (mag x)
mag_quot (pos a) (pos b) = let h = div-le_self a b in omega arith
mag_quot (pos a) (negsuc b) = let h = div-le_self a (suc b) in let k = mag_neg-pos (a / suc b) in omega arith
mag_quot (negsuc a) (pos b) = let h = div-le_self (suc a) b in let k = mag_neg-pos (suc a / b) in omega arith
mag_quot (negsuc a) (negsuc b) = div-le_self (suc a) (suc b)

-- WIDTHS
pub widen : {x : ℤ} → SFits w32 x → SFits w64 x
widen h = sfits_widen tt h

-- The code's `-x` is 0 - x.
pub zero_minus : (x : ℤ) → pos 0 -ℤ x ≡ neg_ℤ x
zero_minus x = +ℤ_idl (neg_ℤ x)

pub zero-minus-fits : {w : Width} (x : ℤ) → SFits w (neg_ℤ x) → SFits w (pos 0 -ℤ x)
zero-minus-fits x h = rw (zero_minus x) h

-- TESTS
-- `==` on signed numbers compares their bits.
bits-same : {w : Width} {a b : ℤ} → SFits w a → SFits w b → of_z w a ≡ of_z w b → a ≡ b
bits-same {w} ha hb e = sym (to_z-of_z ha) ∙ ap (λ (n : ℕ). to_z w n) e ∙ to_z-of_z hb

eq_z_yes : (a : ℤ) → eq_z a a ≡ true
eq_z_yes (pos n) = eq-eqb n n refl
eq_z_yes (negsuc n) = eq-eqb n n refl

eq_z_no : (a b : ℤ) → (a ≡ b → ⊥) → eq_z a b ≡ false
eq_z_no (pos a) (pos b) h = ne_eqb a b (λ e. h (ap pos e))
eq_z_no (pos a) (negsuc b) h = refl
eq_z_no (negsuc a) (pos b) h = refl
eq_z_no (negsuc a) (negsuc b) h = ne_eqb a b (λ e. h (ap negsuc e))

pub eq_z-bits : {w : Width} {a b : ℤ} → SFits w a → SFits w b → eqb (of_z w a) (of_z w b) ≡ eq_z a b
eq_z-bits {w} {a} {b} ha hb = go (eqb (of_z w a) (of_z w b)) refl
  where
    go : (t : Bool) → eqb (of_z w a) (of_z w b) ≡ t → t ≡ eq_z a b
    go true e = sym (ap (eq_z a) (sym (bits-same ha hb (eqb-true _ _ e))) ∙ eq_z_yes a)
    go false e = sym (eq_z_no a b (λ q. eqb-false _ _ e (ap (of_z w) q)))

-- A divisor is 0 or not.
pub is_zero : {z : ℤ} → SFits w32 z → of_z w32 z ≡ 0 → eq_z z (pos 0) ≡ true
is_zero {z} h e = sym (eq_z-bits h (record { sfits = omega arith })) ∙ eq-eqb (of_z w32 z) 0 e

pub not-zero : {z : ℤ} → SFits w32 z → (of_z w32 z ≡ 0 → ⊥) → eq_z z (pos 0) ≡ false
not-zero {z} h e = sym (eq_z-bits h (record { sfits = omega arith })) ∙ ne_eqb (of_z w32 z) 0 e

-- DIFFERENCES of two naturals, by which is larger.
pub sub_ge : (a b : ℕ) → b ≤ a → sub_ℕ a b ≡ pos (a - b)
sub_ge a b h = rw (le-ltb a b h)

pub sub_lt : (a b : ℕ) → a < b → sub_ℕ a b ≡ negsuc (b - suc a)
sub_lt a b h = rw (lt-ltb a b h)

-- THE RANGE, at a width that holds m.
module _ (w : Width) (m : ℕ) (z : ℤ) (hm : m < 2 ^ hbits w) (hz : SFits w z) where
  pub minus-limit-fits : SFits w (pos 0 -ℤ to_z w m)
  minus-limit-fits = rw (to_z_pos w {n = m} hm, zero_minus (pos m)) (record { sfits = lt_of_le_of_lt (mag_neg-pos m) hm })
