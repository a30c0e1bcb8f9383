-- A rule of the rows, proved for a range of numbers by one test that is computed over the range. Assumes nothing.
use Prim.Native.Nat.{ℕ, zero, suc, ◌+◌, ◌≤◌, ◌<◌}
use mathlib.Core.Path.{◌≡◌}
use mathlib.Core.Bool.{Bool, true, ◌&&◌}
use mathlib.Core.Logic.{◌⊎◌, inl, inr}
use native.Mathlib.Nat.{eq-or-lt_of_le}
use native.Mathlib.Omega.{arith}
use Rattle.model.proofs.Fits.{both}

-- f holds of so many numbers from i on.
abbrev pub holds_from : (ℕ → Bool) → (i count : ℕ) → Bool
holds_from f i zero = true
holds_from f i (suc c) = f i && holds_from f (suc i) c

pub at-number : (f : ℕ → Bool) (i c n : ℕ) → holds_from f i c ≡ true → i ≤ n → n < i + c → f n ≡ true
at-number f i zero n h l k = absurd (omega arith)
at-number f i (suc c) n h l k = go (eq-or-lt_of_le l) (at-number f (suc i) c n)
  where
    t : (f i ≡ true) × (holds_from f (suc i) c ≡ true)
    t = both (f i) (holds_from f (suc i) c) h

    go : (i ≡ n) ⊎ (i < n) → (holds_from f (suc i) c ≡ true → suc i ≤ n → n < suc i + c → f n ≡ true) → f n ≡ true
    go (inl e) ih = rw e at t.0
    go (inr j) ih = ih t.1 (omega arith) (omega arith)
