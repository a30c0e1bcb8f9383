-- A rule of the table of instructions by one test that is computed over all rows, and the numbers at which names are found. Assumes nothing.
use Prim.Native.Nat.{ℕ, zero, suc, ◌+◌, ◌-◌, ◌≤◌, ◌<◌}
use mathlib.Core.Path.{◌≡◌, refl, ap, ◌∙◌}
use mathlib.Core.Bool.{Bool, true, false, ◌&&◌}
use mathlib.Core.List.{List, [], ◌∷◌}
use mathlib.Core.Logic.{◌⊎◌, inl, inr}
use native.Mathlib.Omega.{arith}
use lib.ListN.{get_or, length, get_or-eq_default}
use Rattle.model.specs.Instructions.{Row, rows, nop_number, row_of}
use Rattle.model.specs.Load.{same_word, lookup_from, names, lookup}
use Rattle.model.proofs.Fits.{both}

-- The row of a number that is no instruction's is NOP's.
pub none-is-nop : (n : ℕ) → (n ≡ 0) ⊎ (length rows < n) → row_of n ≡ row_of nop_number
unfolding row_of
none-is-nop zero h = refl
none-is-nop (suc n) (inl e) = absurd (omega arith)
none-is-nop (suc n) (inr l) = get_or-eq_default rows _ {n = n} (omega arith)

-- All rows pass a test.
abbrev pub all_rows : (Row → Bool) → List Row → Bool
all_rows f [] = true
all_rows f (r ∷ rs) = f r && all_rows f rs

passes : (f : Row → Bool) (rs : List Row) (n : ℕ) (d : Row) → all_rows f rs ≡ true → (length rs ≤ n → f d ≡ true) → f (get_or rs n d) ≡ true
passes f [] n d h k = k (omega arith)
passes f (r ∷ rs) zero d h k = (both (f r) (all_rows f rs) h).0
passes f (r ∷ rs) (suc n) d h k = passes f rs n d (both (f r) (all_rows f rs) h).1 (λ l. k (omega arith))

-- So does the row of every number.
pub row-rule : (f : Row → Bool) → all_rows f rows ≡ true → (n : ℕ) → f (row_of n) ≡ true
unfolding row_of
row-rule f h n = go n
  where
    nop : f (row_of nop_number) ≡ true
    nop = passes f rows (nop_number - 1) (row_of nop_number) h (λ k. absurd (omega arith))

    go : (k : ℕ) → f (row_of k) ≡ true
    go zero = ap f (none-is-nop 0 (inl refl)) ∙ nop
    go (suc k) = passes f rows k _ h (λ l. nop)

-- What is found among n names that count from k.
abbrev Found : (k n x : ℕ) → Type 0
Found k n x = ¬ (x ≡ 0) → (k ≤ x) × (x < k + n)

lookup-found : (k : ℕ) (w : List ℕ) (ns : List (List ℕ)) → Found k (length ns) (lookup_from k w ns)
unfolding lookup_from
lookup-found k w [] = λ h. absurd (h refl)
lookup-found k w (n ∷ ns) = go (same_word w n) (lookup-found (suc k) w ns)
  where
    go : (b : Bool) → Found (suc k) (length ns) (lookup_from (suc k) w ns) →
        Found k (suc (length ns)) (elim b [ true ↦ k | false ↦ lookup_from (suc k) w ns ])
    go true ih h = (omega arith, omega arith)
    go false ih h = let i = ih h in (omega arith, omega arith)

-- A number that is found is an instruction's.
pub lookup-number : (w : List ℕ) → ¬ (lookup w ≡ 0) → (1 ≤ lookup w) × (lookup w ≤ length rows)
unfolding names
lookup-number w h = let i = lookup-found 1 w names h in (i.0, omega arith)
