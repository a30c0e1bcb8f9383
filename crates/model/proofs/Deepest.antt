-- The greatest SHR, kept step by step, is the greatest. Assumes nothing.
use Prim.Native.Nat.{ℕ, zero, suc, ◌≤◌, ◌<◌}
use mathlib.Core.Path.{◌≡◌, refl, sym, ◌∙◌}
use mathlib.Core.Bool.{true, false}
use mathlib.Core.Logic.{◌⊎◌, inl, inr}
use native.Mathlib.Omega.{arith}
use native.Mathlib.Nat.{le_refl, eq-or-lt_of_le, le_of_suc-le-suc}
use lib.IntN.{ℤ, pos, negsuc}
use lib.Signed.{le_z}
use borrow.Author.Tests.{leb-true, leb-false, le-leb}
use Rattle.model.specs.Machine.{Machine, greater, Greatest, later, over, after, deepest_fold, deepest_after, figures_from}
use Rattle.model.proofs.Fits.{by_cond}

-- THE ORDER of ℤ, as its test.
pub le_z-refl : (z : ℤ) → le_z z z ≡ true
le_z-refl (pos n) = le-leb n n (le_refl n)
le_z-refl (negsuc n) = le-leb n n (le_refl n)

pub le_z_trans : (x y z : ℤ) → le_z x y ≡ true → le_z y z ≡ true → le_z x z ≡ true
le_z_trans (pos x) (pos y) (pos z) h k =
    let a = leb-true x y h in
    let b = leb-true y z k in
    le-leb x z (omega arith)
le_z_trans (pos x) (pos y) (negsuc z) h k = cc
le_z_trans (pos x) (negsuc y) z h k = cc
le_z_trans (negsuc x) y (pos z) h k = refl
le_z_trans (negsuc x) (pos y) (negsuc z) h k = cc
le_z_trans (negsuc x) (negsuc y) (negsuc z) h k =
    let a = leb-true y x h in
    let b = leb-true z y k in
    le-leb z x (omega arith)

le_z_else : (y z : ℤ) → le_z y z ≡ false → le_z z y ≡ true
le_z_else (pos y) (pos z) h = let a = leb-false y z h in le-leb z y (omega arith)
le_z_else (pos y) (negsuc z) h = refl
le_z_else (negsuc y) (pos z) h = cc
le_z_else (negsuc y) (negsuc z) h = let a = leb-false z y h in le-leb y z (omega arith)

-- THE GREATER of two: at least the second, and at most what both are.
module _ (y z : ℤ) where
  pub greater-second : le_z z (greater y z) ≡ true
  greater-second = by_cond (λ g. le_z z g ≡ true) (le_z y z) z y (λ h. le_z-refl z) (le_z_else y z)

  pub greater-most : (b : ℤ) → le_z y b ≡ true → le_z z b ≡ true → le_z (greater y z) b ≡ true
  greater-most b h k = by_cond (λ g. le_z g b ≡ true) (le_z y z) z y (λ q. k) (λ q. h)

-- THE GREATEST of one figure more.
greatest-more : (f : ℕ → ℤ) (m : ℕ) (z : ℤ) → Greatest f m z → Greatest f (suc m) (greater z (f (suc m)))
greatest-more f m z g =
    by_cond (Greatest f (suc m)) (le_z z (f (suc m))) (f (suc m)) z
    (λ h. record { bound = λ i k. rises h i (eq-or-lt_of_le k); index = suc m; within = le_refl (suc m); reached = refl })
    (λ h. record { bound = λ i k. stays (le_z_else z (f (suc m)) h) i (eq-or-lt_of_le k); index = g.index; within = omega (arith, g.within); reached = g.reached })
  where
    rises : le_z z (f (suc m)) ≡ true → (i : ℕ) → (i ≡ suc m) ⊎ (i < suc m) → le_z (f i) (f (suc m)) ≡ true
    rises h i (inl e) = rw e (le_z-refl (f (suc m)))
    rises h i (inr l) = le_z_trans (f i) z (f (suc m)) (g.bound i (le_of_suc-le-suc l)) h

    stays : le_z (f (suc m)) z ≡ true → (i : ℕ) → (i ≡ suc m) ⊎ (i < suc m) → le_z (f i) z ≡ true
    stays h i (inl e) = rw e h
    stays h i (inr l) = g.bound i (le_of_suc-le-suc l)

module _ (M : Machine) where
  open M use {St, fresh, shr}

  -- From any state and any old figure.
  pub from-greatest : (old : ℤ) (s : St) (k : ℕ) → Greatest (figures_from M old s) k (over M (deepest_fold M) k s old)
  unfolding over later
  from-greatest old s zero = record { bound = λ i h. first i h; index = 0; within = le_refl 0; reached = refl }
    where
      first : (i : ℕ) → i ≤ 0 → le_z (figures_from M old s i) old ≡ true
      first zero h = le_z-refl old
      first (suc i) h = absurd (omega arith)
  from-greatest old s (suc k) = greatest-more (figures_from M old s) k _ (from-greatest old s k)

  -- Of the machine's run: over the states after 0 .. m instructions.
  pub run-greatest : (m : ℕ) → Greatest (λ i. shr (after M i)) m (deepest_after M m)
  unfolding later
  run-greatest m =
      let g = from-greatest (shr fresh) fresh m in
      record { bound = λ i h. rw (same i) at (g.bound i h); index = g.index; within = g.within; reached = sym (same g.index) ∙ g.reached }
    where
      same : (i : ℕ) → figures_from M (shr fresh) fresh i ≡ shr (after M i)
      same zero = refl
      same (suc i) = refl
