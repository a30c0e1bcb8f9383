-- The cells of an image that fits, and the literals in them. Assumes nothing.
use Prim.Native.Nat.{ℕ, zero, suc, ◌+◌, ◌*◌, ◌≤◌, ◌<◌}
use mathlib.Core.Path.{◌≡◌, refl, sym, ap, ◌∙◌}
use mathlib.Core.Bool.{Bool, true, false, not, ◌&&◌}
use mathlib.Core.List.{List, [], ◌∷◌}
use native.Mathlib.Omega.{arith}
use lib.Dec.{eqb}
use lib.ListN.{get_or, length, take, drop}
use lib.Seq.{drop-drop}
use borrow.Author.Tests.{eqb-true, eq-eqb}
use Rattle.model.specs.declared.Parameters.{Parameters}
use Rattle.model.specs.Parameters.{between, limit, in_range}
use Rattle.model.specs.Words.{Cell, cell_of, cell_at, is_empty, kind_of, content_of, number_of}
use Rattle.model.specs.Instructions.{rows, row_of}
use Rattle.model.specs.Load.{is_within, one_target}
use Rattle.model.specs.Images.{word_fits, words_fit, cell_fits, all_zero, cells_fit}
use Rattle.model.proofs.Fits.{both, and_both, is-between}
use Rattle.std.proofs.Common.{rules}

-- ZEROS
zero_get_d : (ws : List ℕ) (i : ℕ) → all_zero ws ≡ true → get_or ws i 0 ≡ 0
unfolding all_zero
zero_get_d [] i h = refl
zero_get_d (w ∷ ws) zero h = eqb-true w 0 (both (eqb w 0) (all_zero ws) h).0
zero_get_d (w ∷ ws) (suc i) h = zero_get_d ws i (both (eqb w 0) (all_zero ws) h).1

pub zero-take : (n : ℕ) (ws : List ℕ) → all_zero ws ≡ true → all_zero (take n ws) ≡ true
unfolding all_zero
zero-take zero ws h = refl
zero-take (suc n) [] h = refl
zero-take (suc n) (w ∷ ws) h = let k = both (eqb w 0) (all_zero ws) h in and_both k.0 (zero-take n ws k.1)

pub zero-drop : (n : ℕ) (ws : List ℕ) → all_zero ws ≡ true → all_zero (drop n ws) ≡ true
unfolding all_zero
zero-drop zero ws h = h
zero-drop (suc n) [] h = refl
zero-drop (suc n) (w ∷ ws) h = zero-drop n ws (both (eqb w 0) (all_zero ws) h).1

pub zero_empty : (ws : List ℕ) → all_zero ws ≡ true → is_empty (cell_of ws) ≡ true
zero_empty ws h = and_both (and_both (and_both (at 0) (at 1)) (at 2)) (at 3)
  where
    at : (i : ℕ) → eqb (get_or ws i 0) 0 ≡ true
    at i = eq-eqb (get_or ws i 0) 0 (zero_get_d ws i h)

-- CELLS
-- Cell i + 1 is cell i of the rest.
next-cell : (ws : List ℕ) (i : ℕ) → cell_at ws (suc i) ≡ cell_at (drop 4 ws) i
next-cell ws i = ap (λ (xs : List ℕ). cell_of (take 4 xs)) (ap (λ (n : ℕ). drop n ws) e ∙ sym (drop-drop (4 * i) 4 ws))
  where
    e : 4 * suc i ≡ 4 + 4 * i
    e = omega arith

-- Where the cells fit, there are zeros alone, or the first cell fits and the rest do.
pub data First (p : Parameters) (t : ℕ) (ws : List ℕ) : Type 0 where
  zeros : all_zero ws ≡ true → First p t ws
  full : cell_fits p (cell_of (take 4 ws)) ≡ true → cells_fit p t (drop 4 ws) ≡ true → First p t ws

pub first_cell : (p : Parameters) (t : ℕ) (ws : List ℕ) → cells_fit p (suc t) ws ≡ true → First p t ws
unfolding cells_fit
first_cell p t ws h = search rules

-- A cell that is not empty fits.
pub cell-fits : (p : Parameters) (t : ℕ) (ws : List ℕ) (i : ℕ) → cells_fit p t ws ≡ true → i < t → is_empty (cell_at ws i) ≡ false →
    cell_fits p (cell_at ws i) ≡ true
cell-fits p zero ws i h l n = absurd (omega arith)
cell-fits p (suc t) ws zero h l n = go (first_cell p t ws h)
  where
    go : First p t ws → cell_fits p (cell_of (take 4 ws)) ≡ true
    go (zeros z) = let y = zero_empty (take 4 ws) (zero-take 4 ws z) in cc
    go (full f g) = f
cell-fits p (suc t) ws (suc i) h l n = go (first_cell p t ws h) (cell-fits p t (drop 4 ws) i)
  where
    go : First p t ws →
        (cells_fit p t (drop 4 ws) ≡ true → i < t → is_empty (cell_at (drop 4 ws) i) ≡ false → cell_fits p (cell_at (drop 4 ws) i) ≡ true) →
        cell_fits p (cell_at ws (suc i)) ≡ true
    go (zeros z) ih = let y = zero_empty (take 4 (drop (4 * suc i) ws)) (zero-take 4 _ (zero-drop (4 * suc i) ws z)) in cc
    go (full f g) ih = rw (next-cell ws i) (ih g (omega arith) (sym (ap is_empty (next-cell ws i)) ∙ n))

not-true : (b : Bool) → not b ≡ true → b ≡ false
not-true true h = sym h
not-true false h = refl

-- What a cell that fits has: an instruction's number, arguments by its row, and no two targets in one register.
module _ (p : Parameters) (c : Cell) (h : cell_fits p c ≡ true) where
  abbrev words : List ℕ
  words = c.first ∷ c.second ∷ c.third ∷ []

  parts : (between 1 (length rows) c.head ≡ true) × ((words_fit p (row_of c.head).forms words && not (one_target c)) ≡ true)
  unfolding cell_fits
  parts = both (between 1 (length rows) c.head) _ h

  pub fits-number : (1 ≤ c.head) × (c.head ≤ length rows)
  fits-number = is-between 1 (length rows) c.head parts.0

  pub fits-words : words_fit p (row_of c.head).forms words ≡ true
  fits-words = (both (words_fit p (row_of c.head).forms words) _ parts.1).0

  pub fits-targets : one_target c ≡ false
  fits-targets = not-true (one_target c) (both (words_fit p (row_of c.head).forms words) _ parts.1).1

-- A cell whose head is 0 is empty.
pub empty-head : (p : Parameters) (t : ℕ) (ws : List ℕ) (i : ℕ) → cells_fit p t ws ≡ true → i < t → (cell_at ws i).head ≡ 0 →
    is_empty (cell_at ws i) ≡ true
empty-head p t ws i h l e = go (is_empty (cell_at ws i)) refl
  where
    go : (b : Bool) → is_empty (cell_at ws i) ≡ b → b ≡ true
    go true q = refl
    go false q = absurd (omega (arith, fits-number p (cell_at ws i) (cell-fits p t ws i h l q)))

-- LITERALS
-- If this word is a literal, its value is in range.
abbrev pub Readable : Parameters → ℕ → Type 0
Readable p w = kind_of w ≡ 3 → in_range (limit p.k) (number_of (content_of w)) ≡ true

pub record CellReadable (p : Parameters) (c : Cell) : Type 0 where
  pub first : Readable p c.first
  pub second : Readable p c.second
  pub third : Readable p c.third

word-readable : (p : Parameters) (form w : ℕ) → word_fits p form w ≡ true → Readable p w
unfolding word_fits is_within
word-readable p form w h e = search rules

zero-readable : (p : Parameters) (w : ℕ) → w ≡ 0 → Readable p w
zero-readable p w h e = absurd (omega arith)

words-readable : (p : Parameters) (forms ws : List ℕ) (i : ℕ) → words_fit p forms ws ≡ true → Readable p (get_or ws i 0)
unfolding words_fit
words-readable p forms [] i h = zero-readable p 0 refl
words-readable p [] (w ∷ ws) zero h = zero-readable p w (eqb-true w 0 (both (eqb w 0) (words_fit p [] ws) h).0)
words-readable p [] (w ∷ ws) (suc i) h = words-readable p [] ws i (both (eqb w 0) (words_fit p [] ws) h).1
words-readable p (f ∷ fs) (w ∷ ws) zero h = word-readable p f w (both (word_fits p f w) (words_fit p fs ws) h).0
words-readable p (f ∷ fs) (w ∷ ws) (suc i) h = words-readable p fs ws i (both (word_fits p f w) (words_fit p fs ws) h).1

pub cell-readable : (p : Parameters) (c : Cell) → cell_fits p c ≡ true → CellReadable p c
cell-readable p c h =
    let k = words-readable p (row_of c.head).forms (c.first ∷ c.second ∷ c.third ∷ []) in
    let f = fits-words p c h in
    record { first = k 0 f; second = k 1 f; third = k 2 f }
