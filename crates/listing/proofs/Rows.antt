-- The table of instructions: each name is a word and is found at its number, and no instruction has more than three arguments. Assumes nothing.
use Prim.Native.Nat.{ℕ, zero, suc, ◌+◌, ◌≤◌, ◌<◌}
use mathlib.Core.Path.{◌≡◌, refl, ◌∙◌}
use mathlib.Core.Bool.{Bool, true, ◌&&◌}
use mathlib.Core.List.{List, [], ◌∷◌}
use native.Mathlib.Omega.{arith}
use lib.Dec.{eqb, leb}
use lib.ListN.{get_or, length}
use borrow.Author.Tests.{leb-true, eqb-true}
use Rattle.model.specs.Instructions.{Row, rows, row_of}
use Rattle.model.specs.Load.{same_word, lookup_from, names, lookup}
use Rattle.model.proofs.Fits.{both}
use Rattle.model.proofs.Rows.{row-rule}
use Rattle.listing.proofs.Bytes.{is_word}

pub name-word : (n : ℕ) → is_word (row_of n).name ≡ true
name-word n = row-rule (λ r. is_word r.name) refl n

pub three-forms : (n : ℕ) → length (row_of n).forms ≤ 3
three-forms n = leb-true _ 3 (row-rule (λ r. leb (length r.forms) 3) refl n)

-- The names are numbered from k on.
abbrev are_numbered : ℕ → List Row → Bool
are_numbered k [] = true
are_numbered k (r ∷ rs) = eqb (lookup r.name) k && are_numbered (suc k) rs

all-numbered : are_numbered 1 rows ≡ true
unfolding names lookup_from same_word
all-numbered = refl

numbered-at : (k : ℕ) (rs : List Row) (n : ℕ) (d : Row) → are_numbered k rs ≡ true → n < length rs → lookup (get_or rs n d).name ≡ k + n
numbered-at k [] n d h l = absurd (omega arith)
numbered-at k (r ∷ rs) zero d h l = eqb-true (lookup r.name) k (both (eqb (lookup r.name) k) (are_numbered (suc k) rs) h).0 ∙ omega arith
numbered-at k (r ∷ rs) (suc n) d h l =
    numbered-at (suc k) rs n d (both (eqb (lookup r.name) k) (are_numbered (suc k) rs) h).1 (omega arith) ∙ omega arith

pub name_back : (n : ℕ) → 1 ≤ n → n ≤ length rows → lookup (row_of n).name ≡ n
unfolding row_of
name_back zero l h = absurd (omega arith)
name_back (suc n) l h = numbered-at 1 rows n _ all-numbered (omega arith) ∙ omega arith
