-- Laws about ℤ. `mag z` is n both for n and for -(n + 1), so that a range of a signed width is one bound in ℕ. Assumes nothing.
use Prim.Native.Nat.{ℕ, zero, suc, ◌≤◌}
use native.Mathlib.Omega.{arith}
use lib.IntN.{pos, pred_ℤ, ◌-ℤ◌, -ℤ_one}
use lib.Signed.{mag}

pub mag_pred : (n : ℕ) → mag (pos n -ℤ pos 1) ≤ n
mag_pred n = rw -ℤ_one (go n)
  where
    go : (n : ℕ) → mag (pred_ℤ (pos n)) ≤ n
    go zero = omega arith
    go (suc n) = omega arith
