-- SHR in a record, and `top`. Assumes nothing.
use Prim.Native.Nat.{ℕ, zero, suc, ◌+◌, ◌≤◌}
use mathlib.Core.Bool.{true}
use mathlib.Core.Path.{◌≡◌, refl, ap, ◌∙◌}
use native.Mathlib.Numerals.{add-one}
use native.Mathlib.Omega.{arith}
use lib.IntN.{ℤ, pos, negsuc, pred_ℤ, ◌+ℤ◌, ◌-ℤ◌, -ℤ_one}
use lib.Signed.{le_z}
use borrow.Author.Tests.{leb-true}

-- SHR + 1 for SHR of -1 or more, and at most S-1.
pub record Raised (s : ℕ) (z : ℤ) : Type 0 where
  pub top : ℕ
  pub is : z +ℤ pos 1 ≡ pos top
  pub high : top ≤ s
  pub back : pos top -ℤ pos 1 ≡ z

raised : (b s : ℕ) (z : ℤ) → le_z (pred_ℤ (pos b)) z ≡ true → le_z z (pred_ℤ (pos s)) ≡ true → Raised s z
raised b zero (pos n) l h = absurd (let z : ◌≡◌ {A = ℕ} 0 1 = cc in omega arith)
raised b (suc s) (pos n) l h =
    let k = leb-true n s h in
    record { top = n + 1; is = refl; high = omega arith; back = ap (λ (i : ℕ). pos i -ℤ pos 1) (add-one n) ∙ -ℤ_one (pos (suc n)) }
raised b s (negsuc zero) l h = record { top = 0; is = refl; high = omega arith; back = refl }
raised zero s (negsuc (suc n)) l h = absurd (let k = leb-true (suc n) 0 l in omega arith)
raised (suc b) s (negsuc (suc n)) l h = absurd (let z : ◌≡◌ {A = ℕ} 0 1 = cc in omega arith)

pub raised-head : (b s : ℕ) (z : ℤ) → le_z (pos b -ℤ pos 1) z ≡ true → le_z z (pos s -ℤ pos 1) ≡ true → Raised s z
raised-head b s z l h = raised b s z (rw -ℤ_one at l) (rw -ℤ_one at h)
