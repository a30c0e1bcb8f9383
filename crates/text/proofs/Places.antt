-- Looking for a byte, by the words of std. Assumes nothing.
use Prim.Native.Nat.{ℕ, ◌≤◌, ◌<◌}
use mathlib.Core.Path.{◌≡◌}
use mathlib.Core.Bool.{Bool, not, cond}
use mathlib.Core.List.{List}
use native.Mathlib.Decide.{dec_lt}
use native.Mathlib.Omega.{arith}
use lib.ListN.{length}
use lib.Dec.{ltb}
use borrow.Author.Tests.{lt-ltb, le-ltb}
use Rattle.std.proofs.Common.{Some, None}
use Rattle.std.specs.List.{position_or_len}
use Rattle.std.specs.Option.{unwrap_or}
use Rattle.std.proofs.lemmas.List.Sums.{prefix_len-le-length}

-- The place that `position` finds, or the length.
pub place-found : {X : Type 0} (test : X → Bool) (w : List X) →
    unwrap_or (cond (ltb (position_or_len test w) (length w)) (Some (position_or_len test w)) None) (length w) ≡ position_or_len test w
place-found test w = go (position_or_len test w) (prefix_len-le-length (λ b. not (test b)) w) (dec_lt (position_or_len test w) (length w))
  where
    go : (i : ℕ) → i ≤ length w → Dec (i < length w) → unwrap_or (cond (ltb i (length w)) (Some i) None) (length w) ≡ i
    go i h (yes l) = simp (lt-ltb i (length w) l)
    go i h (no g) = simp (le-ltb i (length w) (omega arith)) (omega arith)
