-- SHR as the code holds it: `top` is SHR + 1. Assumes nothing.
use Prim.Native.Nat.{ℕ, zero, suc, ◌+◌, ◌-◌, ◌≤◌}
use mathlib.Core.Bool.{Bool, true, false}
use mathlib.Core.Path.{◌≡◌, refl, sym, ap, ◌∙◌}
use native.Mathlib.Numerals.{add-one}
use native.Mathlib.Omega.{arith}
use lib.Dec.{eqb}
use lib.IntN.{pos, nat_abs, suc_ℤ, pred_ℤ, ◌-ℤ◌, -ℤ_one, suc-pred}
use lib.Signed.{le_z}
use borrow.Author.Tests.{leb-true, eqb-true, eqb-false, eq-eqb, ne_eqb}
use Rattle.model.specs.Parameters.{eq_z}

pub raised-top : (top : ℕ) → suc_ℤ (pos top -ℤ pos 1) ≡ pos top
raised-top top = rw -ℤ_one (suc-pred (pos top))

pub top-raised : (top : ℕ) → pos (top + 1) -ℤ pos 1 ≡ pos top
top-raised top = ap (λ (n : ℕ). pos n -ℤ pos 1) (add-one top) ∙ -ℤ_one (pos (suc top))

pub lowered-top : (top : ℕ) → 1 ≤ top → pred_ℤ (pos top -ℤ pos 1) ≡ pos (top - 1) -ℤ pos 1
lowered-top zero h = absurd (omega arith)
lowered-top (suc n) h = let e : suc n - 1 ≡ n = omega arith in ap pred_ℤ (-ℤ_one (pos (suc n))) ∙ sym (ap (λ (i : ℕ). pos i -ℤ pos 1) e ∙ -ℤ_one (pos n))

pub head_of : (top : ℕ) → 1 ≤ top → nat_abs (pos top -ℤ pos 1) ≡ top - 1
head_of zero h = absurd (omega arith)
head_of (suc n) h = let e : suc n - 1 ≡ n = omega arith in ap nat_abs (-ℤ_one (pos (suc n))) ∙ sym e

-- The stack is empty.
pub empty-top : (b top : ℕ) → eq_z (pos top -ℤ pos 1) (pos b -ℤ pos 1) ≡ eqb top b
empty-top b top = simp -ℤ_one (go b top)
  where
    go : (b top : ℕ) → eq_z (pred_ℤ (pos top)) (pred_ℤ (pos b)) ≡ eqb top b
    go zero zero = refl
    go zero (suc n) = sym (ne_eqb (suc n) 0 (λ e. omega arith))
    go (suc b) zero = sym (ne_eqb 0 (suc b) (λ e. omega arith))
    go (suc b) (suc n) = same (eqb n b) refl
      where
        same : (t : Bool) → eqb n b ≡ t → t ≡ eqb (suc n) (suc b)
        same true e = sym (eq-eqb (suc n) (suc b) (ap suc (eqb-true n b e)))
        same false e = let d = eqb-false n b e in sym (ne_eqb (suc n) (suc b) (λ q. d (omega arith)))

-- The bounds of 15.
pub top-between : (b top : ℕ) → le_z (pos b -ℤ pos 1) (pos top -ℤ pos 1) ≡ true → b ≤ top
top-between b top h = go b top (rw (-ℤ_one, -ℤ_one) at h)
  where
    go : (b top : ℕ) → le_z (pred_ℤ (pos b)) (pred_ℤ (pos top)) ≡ true → b ≤ top
    go zero top h = omega arith
    go (suc b) zero h = absurd (let z : ◌≡◌ {A = ℕ} 0 1 = cc in omega arith)
    go (suc b) (suc top) h = let l = leb-true b top h in omega arith
