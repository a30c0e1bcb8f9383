-- Numbers that a field holds, and those that it does not. Assumes nothing.
use Prim.Native.Nat.{ℕ, ◌+◌, ◌^◌}
use mathlib.Core.Path.{◌≡◌, refl, sym, ◌∙◌}
use mathlib.Core.Bool.{Bool, true, false, cond}
use native.Mathlib.Omega.{arith}
use lib.Dec.{leb}
use lib.IntN.{ℤ, pos, negsuc, nat_abs}
use borrow.Author.Tests.{leb-true, le-leb}
use Rattle.std.specs.Prelude.{Result, Ok, Err}
use Rattle.std.specs.Result.{OkIff, result_unwrap_or}
use Rattle.std.specs.Int.{FitsUnsignedBits}
use Rattle.tak.specs.Records.{held}

-- A conversion to so many bits, or else the greatest number of them.
pub held_converted : {E : Type 0} (bits most : ℕ) (z : ℤ) (r : Result ℕ E) → most + 1 ≡ 2 ^ bits → OkIff r (FitsUnsignedBits bits z) (nat_abs z) →
    result_unwrap_or r most ≡ held most z
unfolding held
held_converted bits most (pos n) (Ok x) q h = h.1 ∙ sym (rw (le-leb n most (omega (arith, q, h.0))))
held_converted bits most (pos n) (Err e) q h = go (leb n most) refl
  where
    go : (b : Bool) → leb n most ≡ b → most ≡ cond (leb n most) n most
    go true l = absurd (h (omega (arith, q, leb-true n most l)))
    go false l = rw l
held_converted bits most (negsuc n) (Ok x) q h = absurd h.0
held_converted bits most (negsuc n) (Err e) q h = refl
