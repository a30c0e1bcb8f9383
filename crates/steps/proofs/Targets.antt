-- In a cell that fits, what is written to is named. Assumes nothing.
use Prim.Native.Nat.{ℕ, zero, suc, ◌≤◌, ◌<◌}
use mathlib.Core.Bool.{Bool, true, ◌&&◌, cond}
use mathlib.Core.List.{List, [], ◌∷◌}
use mathlib.Core.Option.{Option, none, some}
use mathlib.Core.Path.{◌≡◌, refl}
use native.Mathlib.Omega.{arith}
use lib.Dec.{eqb, leb}
use lib.ListN.{length, get_or}
use borrow.Author.Tests.{leb-true}
use Rattle.model.proofs.Cells.{fits-words}
use Rattle.model.proofs.Fits.{both}
use Rattle.model.proofs.Rows.{row-rule}
use Rattle.model.specs.Images.{word_fits, words_fit, cell_fits}
use Rattle.model.specs.Instructions.{Position, first, second, third, Row, row_of}
use Rattle.model.specs.Step.{argument_at}
use Rattle.model.specs.Words.{Cell, kind_of}
use Rattle.model.specs.declared.Parameters.{Parameters}
use Rattle.steps.proofs.Steps.{Named, target_of, NamesTarget}

-- How many arguments an operation needs to have the one that it writes to.
abbrev arguments_used : Option Position → ℕ
arguments_used none = 0
arguments_used (some first) = 1
arguments_used (some second) = 2
arguments_used (some third) = 3

row_arguments : (n : ℕ) → arguments_used (target_of (row_of n).operation) ≤ length (row_of n).forms
row_arguments n = leb-true _ _ (row-rule (λ (r : Row). leb (arguments_used (target_of r.operation)) (length r.forms)) refl n)

none-fits : (k : ℕ) (a b c : Bool) → cond (eqb k 1) a (cond (eqb k 2) b (eqb k 3 && c)) ≡ true → 1 ≤ k
none-fits zero a b c h = absurd (let z : ◌≡◌ {A = ℕ} 0 1 = cc in omega arith)
none-fits (suc k) a b c h = omega arith

word-named : (p : Parameters) (form w : ℕ) → word_fits p form w ≡ true → Named w
unfolding word_fits
word-named p form w h = none-fits (kind_of w) _ _ _ h

words-named : (p : Parameters) (forms ws : List ℕ) (i : ℕ) → words_fit p forms ws ≡ true → i < length forms → i < length ws → Named (get_or ws i 0)
unfolding words_fit
words-named p [] ws i h l k = absurd (omega arith)
words-named p (f ∷ fs) [] i h l k = absurd (omega arith)
words-named p (f ∷ fs) (w ∷ ws) zero h l k = word-named p f w (both (word_fits p f w) (words_fit p fs ws) h).0
words-named p (f ∷ fs) (w ∷ ws) (suc i) h l k = words-named p fs ws i (both (word_fits p f w) (words_fit p fs ws) h).1 (omega arith) (omega arith)

pub names-target : (p : Parameters) (c : Cell) → cell_fits p c ≡ true → NamesTarget (row_of c.head).operation c
names-target p c h to e = go to (rw e at (row_arguments c.head))
  where
    fits : words_fit p (row_of c.head).forms (c.first ∷ c.second ∷ c.third ∷ []) ≡ true
    fits = fits-words p c h

    named : (i : ℕ) → i < length (row_of c.head).forms → i < 3 → Named (get_or (c.first ∷ c.second ∷ c.third ∷ []) i 0)
    named i l k = words-named p (row_of c.head).forms (c.first ∷ c.second ∷ c.third ∷ []) i fits l k

    go : (to : Position) → arguments_used (some to) ≤ length (row_of c.head).forms → Named (argument_at to c)
    go first l = named 0 l (omega arith)
    go second l = named 1 l (omega arith)
    go third l = named 2 l (omega arith)
