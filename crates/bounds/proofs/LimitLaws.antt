-- What holds of a limit. Assumes nothing.
use Prim.Native.Nat.{ℕ, ◌*◌, ◌^◌, ◌≤◌}
use mathlib.Core.Path.{◌≡◌}
use native.Mathlib.Omega.{arith}
use lib.IntN.{ℤ}
use mir.Syntax.{w32}
use mir.Val.{SFits}
use Rattle.model.proofs.Fits.{limit-low, limit-high, limit-double}
use Rattle.bounds.specs.Bounds.{IsLimit, Within}

module _ {m : ℕ} (l : IsLimit m) where
  pub at_least : 128 ≤ m
  at_least = rw l.is (limit-low l.low)

  pub at_most : m ≤ 2 ^ 29
  at_most = rw l.is (limit-high l.high)

  pub double : 2 * m ≡ 2 ^ l.k
  double = rw l.is (limit-double (omega (arith, l.low)))

  pub one : 1 ≤ m
  one = omega (arith, at_least)

  pub within-fits : {z : ℤ} → Within m z → SFits w32 z
  within-fits h = record { sfits = omega (arith, h, at_most) }
