-- A test that fails at each of some bytes. Assumes nothing.
use Prim.Native.Nat.{ℕ}
use mathlib.Core.Path.{◌≡◌, refl}
use mathlib.Core.Bool.{Bool, true, false, ◌||◌}
use mathlib.Core.List.{List, [], ◌∷◌}
use lib.Dec.{eqb}
use borrow.Author.Tests.{eqb-true}
use Rattle.model.specs.Numbers.{among}

abbrev pub Fails : (ℕ → Bool) → List ℕ → Type 0
Fails f [] = Unit {0}
Fails f (k ∷ ks) = (f k ≡ false) × Fails f ks

pub among-fails : (f : ℕ → Bool) (ks : List ℕ) (b : ℕ) → Fails f ks → among ks b ≡ true → f b ≡ false
among-fails f [] b n h = cc
among-fails f (k ∷ ks) b n h = go (eqb b k) refl h (among-fails f ks b n.1)
  where
    go : (x : Bool) → eqb b k ≡ x → (x || among ks b) ≡ true → (among ks b ≡ true → f b ≡ false) → f b ≡ false
    go true e h ih = rw (eqb-true b k e) n.0
    go false e h ih = ih h
