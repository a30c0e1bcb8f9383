-- A cell that fits is read back from its line, and a line that is accepted gives a cell that fits. Assumes nothing.
use Prim.Native.Nat.{ℕ, zero, suc, ◌≤◌}
use mathlib.Core.Path.{◌≡◌, refl, sym, ap, ◌∙◌}
use mathlib.Core.Bool.{Bool, true, false, not, cond}
use mathlib.Core.List.{List, [], ◌∷◌, ◌++◌, map, append_assoc, append-nil}
use native.Mathlib.Omega.{arith}
use lib.Dec.{eqb}
use lib.ListN.{length, get_or, take}
use borrow.Author.Tests.{eqb-true, eqb-false, le-leb}
use Rattle.model.specs.declared.Parameters.{Parameters}
use Rattle.model.specs.Words.{Cell, cell_with, is_empty}
use Rattle.model.specs.Instructions.{rows, nop_number, row_of}
use Rattle.model.specs.Load.{lookup, argument, Checked, fine, fault, checked_argument, arguments_from, one_target, unless_one_target, headed, line_cell, line_of}
use Rattle.model.specs.Images.{word_fits, words_fit, cell_fits}
use Rattle.model.proofs.Cells.{fits-number, fits-words, fits-targets}
use Rattle.model.proofs.Fits.{both, and_both, Limits}
use Rattle.listing.specs.Listing.{argument_of, argument_text, instruction_words, spaced}
use Rattle.listing.proofs.Bytes.{are_words, words_back}
use Rattle.model.proofs.Rows.{lookup-number}
use Rattle.listing.proofs.Rows.{name-word, three-forms, name_back}
use Rattle.listing.proofs.Arguments.{text-word, word_back, checked-fits}
use Rattle.std.proofs.Common.{rules}

-- The text of an image word.
abbrev text : ℕ → List ℕ
text w = argument_text (argument_of w)

texts-words : (ws : List ℕ) → are_words (map text ws) ≡ true
texts-words [] = refl
texts-words (w ∷ ws) = and_both (text-word (argument_of w)) (texts-words ws)

pub cell-words : (c : Cell) → are_words (instruction_words c) ≡ true
cell-words c = and_both (name-word c.head) (texts-words (take (length (row_of c.head).forms) (c.first ∷ c.second ∷ c.third ∷ [])))

same-cell : (c : Cell) (xs : List ℕ) → get_or xs 0 0 ≡ c.first → get_or xs 1 0 ≡ c.second → get_or xs 2 0 ≡ c.third → cell_with c.head xs ≡ c
same-cell c xs e f g = rw (e, f, g)

-- Words and zeros behind them, n in all.
unfoldable padded : ℕ → List ℕ → List ℕ
padded zero xs = []
padded (suc n) [] = 0 ∷ padded n []
padded (suc n) (x ∷ xs) = x ∷ padded n xs

three-padded : (xs : List ℕ) → padded 3 xs ≡ get_or xs 0 0 ∷ get_or xs 1 0 ∷ get_or xs 2 0 ∷ []
unfolding padded
three-padded [] = refl
three-padded (x ∷ []) = refl
three-padded (x ∷ y ∷ []) = refl
three-padded (x ∷ y ∷ z ∷ xs) = refl

module _ (p : Parameters) where
  -- "for each argument from the left"
  argument-step : (xs fs : List ℕ) (f x : ℕ) (w : List ℕ) (ws : List (List ℕ)) → checked_argument p f (argument w) ≡ fine x →
      arguments_from p xs (f ∷ fs) (w ∷ ws) ≡ arguments_from p (xs ++ (x ∷ [])) fs ws
  unfolding arguments_from
  argument-step xs fs f x w ws e = simp (arguments_from, e)

  -- FROM A CELL THAT FITS
  arguments-back : (forms ws xs : List ℕ) → words_fit p forms ws ≡ true →
      arguments_from p xs forms (map text (take (length forms) ws)) ≡ fine (xs ++ take (length forms) ws)
  unfolding arguments_from words_fit
  arguments-back [] ws xs h = ap fine (sym (append-nil xs))
  arguments-back (f ∷ fs) [] xs h = cc
  arguments-back (f ∷ fs) (w ∷ ws) xs h =
      let k = both (word_fits p f w) (words_fit p fs ws) h in
      argument-step xs fs f w (text w) (map text (take (length fs) ws)) (word_back p f w k.0)
      ∙ arguments-back fs ws (xs ++ (w ∷ [])) k.1
      ∙ ap fine (append_assoc xs (w ∷ []) (take (length fs) ws))

  arguments-count : (forms ws : List ℕ) → words_fit p forms ws ≡ true → length (map text (take (length forms) ws)) ≡ length forms
  unfolding words_fit
  arguments-count [] ws h = refl
  arguments-count (f ∷ fs) [] h = cc
  arguments-count (f ∷ fs) (w ∷ ws) h = ap suc (arguments-count fs ws (both (word_fits p f w) (words_fit p fs ws) h).1)

  -- "An absent argument is 0."
  absent : (forms ws : List ℕ) (i : ℕ) → words_fit p forms ws ≡ true → get_or (take (length forms) ws) i 0 ≡ get_or ws i 0
  unfolding words_fit
  absent [] [] i h = refl
  absent [] (w ∷ ws) zero h = sym (eqb-true w 0 (both (eqb w 0) (words_fit p [] ws) h).0)
  absent [] (w ∷ ws) (suc i) h = absent [] ws i (both (eqb w 0) (words_fit p [] ws) h).1
  absent (f ∷ fs) [] i h = refl
  absent (f ∷ fs) (w ∷ ws) zero h = refl
  absent (f ∷ fs) (w ∷ ws) (suc i) h = absent fs ws i (both (word_fits p f w) (words_fit p fs ws) h).1

  good-line : (n : ℕ) (w : List ℕ) (ws : List (List ℕ)) → lookup w ≡ n → 1 ≤ n → length ws ≡ length (row_of n).forms →
      line_cell p (w ∷ ws) ≡ headed n (arguments_from p [] (row_of n).forms ws)
  unfolding line_cell
  good-line n w ws e l h = search rules

  line-cell : (c : Cell) → cell_fits p c ≡ true → line_cell p (instruction_words c) ≡ fine c
  line-cell c h =
      let forms = (row_of c.head).forms in
      let ws = c.first ∷ c.second ∷ c.third ∷ [] in
      let f = fits-words p c h in
      let n = fits-number p c h in
      let at : (i : ℕ) → get_or (take (length forms) ws) i 0 ≡ get_or ws i 0 = λ i. absent forms ws i f in
      let name = name_back c.head n.0 n.1 in
      let count = arguments-count forms ws f in
      good-line c.head (row_of c.head).name (map text (take (length forms) ws)) name n.0 count
      ∙ ap (headed c.head) (arguments-back forms ws [] f)
      ∙ ap unless_one_target (same-cell c (take (length forms) ws) (at 0) (at 1) (at 2))
      ∙ ap (λ (b : Bool). cond b (fault 19) (fine c)) (fits-targets p c h)

  -- Its line, read back.
  pub cell-back : (c : Cell) → cell_fits p c ≡ true → line_of p (spaced (instruction_words c)) ≡ fine c
  cell-back c h = ap (line_cell p) (words_back (instruction_words c) (cell-words c)) ∙ line-cell c h

  -- TO A CELL THAT FITS
  pub full-cell : (c : Cell) → cell_fits p c ≡ true → is_empty c ≡ false
  unfolding cell_fits
  full-cell c h = search rules

  -- What is read at these places, behind xs.
  record Read (forms xs ys : List ℕ) : Type 0 where
    behind : List ℕ
    whole : ys ≡ xs ++ behind
    fit : words_fit p forms behind ≡ true

  abbrev Reads : (forms xs : List ℕ) → Checked (List ℕ) → Type 0
  Reads forms xs o = (ys : List ℕ) → o ≡ fine ys → Read forms xs ys

  padded-fits : (n : ℕ) (forms xs : List ℕ) → length forms ≤ n → words_fit p forms xs ≡ true → words_fit p forms (padded n xs) ≡ true
  unfolding words_fit padded
  padded-fits zero [] xs l h = refl
  padded-fits (suc n) [] [] l h = padded-fits n [] [] (omega arith) refl
  padded-fits (suc n) [] (x ∷ xs) l h =
      let k = both (eqb x 0) (words_fit p [] xs) h in
      and_both k.0 (padded-fits n [] xs (omega arith) k.1)
  padded-fits zero (f ∷ fs) xs l h = absurd (omega arith)
  padded-fits (suc n) (f ∷ fs) [] l h = cc
  padded-fits (suc n) (f ∷ fs) (x ∷ xs) l h =
      let k = both (word_fits p f x) (words_fit p fs xs) h in
      and_both k.0 (padded-fits n fs xs (omega arith) k.1)

  cell-fits : (n : ℕ) (xs : List ℕ) → 1 ≤ n → n ≤ length rows → words_fit p (row_of n).forms xs ≡ true → one_target (cell_with n xs) ≡ false →
      cell_fits p (cell_with n xs) ≡ true
  unfolding cell_fits
  cell-fits n xs l h f apart =
      let k = padded-fits 3 (row_of n).forms xs (three-forms n) f in
      and_both (and_both (le-leb 1 n l) (le-leb n (length rows) h)) (and_both (rw (three-padded xs) at k) (ap not apart))

  -- "A line without words is NOP."
  nop-fits : cell_fits p (cell_with nop_number []) ≡ true
  unfolding cell_fits words_fit row_of
  nop-fits = refl

  module _ (limits : Limits p) where
    arguments-fit : (forms : List ℕ) (ws : List (List ℕ)) (xs : List ℕ) → Reads forms xs (arguments_from p xs forms ws)
    unfolding arguments_from words_fit
    arguments-fit [] ws xs ys h = let e : ys ≡ xs = cc in record { behind = []; whole = e ∙ sym (append-nil xs); fit = refl }
    arguments-fit (f ∷ fs) [] xs ys h = let z : ◌≡◌ {A = ℕ} 0 1 = cc in absurd (omega arith)
    arguments-fit (f ∷ fs) (w ∷ ws) xs ys h = go (checked_argument p f (argument w)) refl (λ x. arguments-fit fs ws (xs ++ (x ∷ []))) ys h
      where
        next : ℕ → Checked (List ℕ)
        next x = arguments_from p (xs ++ (x ∷ [])) fs ws

        go : (o : Checked ℕ) → checked_argument p f (argument w) ≡ o → ((x : ℕ) → Reads fs (xs ++ (x ∷ [])) (next x)) →
            Reads (f ∷ fs) xs (elim o [ fine x ↦ next x | fault k ↦ fault k ])
        go (fine x) e ih ys h =
            let r = ih x ys h in
            record {
              behind = x ∷ r.behind;
              whole = r.whole ∙ append_assoc xs (x ∷ []) r.behind;
              fit = and_both (checked-fits p limits f w x e) r.fit;
            }
        go (fault k) e ih ys h = let z : ◌≡◌ {A = ℕ} 0 1 = cc in absurd (omega arith)

    headed-fits : (n : ℕ) → 1 ≤ n → n ≤ length rows → (o : Checked (List ℕ)) → Reads (row_of n).forms [] o → (c : Cell) → headed n o ≡ fine c →
        cell_fits p c ≡ true
    headed-fits n l h (fine ys) r c e = go (one_target (cell_with n ys)) refl e
      where
        go : (b : Bool) → one_target (cell_with n ys) ≡ b → cond b (fault 19) (fine (cell_with n ys)) ≡ fine c → cell_fits p c ≡ true
        go true q e = cc
        go false q e =
            let k = r ys refl in
            let is : cell_with n ys ≡ c = cc in
            let f : words_fit p (row_of n).forms ys ≡ true = rw k.whole k.fit in
            rw is at (cell-fits n ys l h f q)
    headed-fits n l h (fault k) r c e = cc

    -- What a line is accepted as fits.
    pub line-fits : (ws : List (List ℕ)) (c : Cell) → line_cell p ws ≡ fine c → cell_fits p c ≡ true
    unfolding line_cell
    line-fits [] c h = let q : cell_with nop_number [] ≡ c = cc in rw q at nop-fits
    line-fits (w ∷ ws) c h = go (eqb (lookup w) 0) (eqb (length ws) (length forms)) refl h
      where
        forms : List ℕ
        forms = (row_of (lookup w)).forms

        read : Checked (List ℕ)
        read = arguments_from p [] forms ws

        go : (x y : Bool) → eqb (lookup w) 0 ≡ x →
            (elim x as (λ z. Checked Cell) [ true ↦ fault 11 | false ↦ elim y [ true ↦ headed (lookup w) read | false ↦ fault 12 ] ]) ≡ fine c →
            cell_fits p c ≡ true
        go true y e h = cc
        go false false e h = cc
        go false true e h =
            let n = lookup-number w (eqb-false (lookup w) 0 e) in
            headed-fits (lookup w) n.0 n.1 read (arguments-fit forms ws []) c h
