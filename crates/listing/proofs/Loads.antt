-- Loading the listing of an image that passes the test on cells gives that image. Assumes nothing.
use Prim.Native.Nat.{ℕ, zero, suc, ◌+◌, ◌*◌, ◌-◌, ◌≤◌}
use mathlib.Core.Path.{◌≡◌, refl, ap, ◌∙◌}
use mathlib.Core.Bool.{true}
use mathlib.Core.List.{List, [], ◌∷◌, ◌++◌}
use native.Mathlib.Omega.{arith}
use lib.Dec.{eqb}
use lib.ListN.{length, take, drop, replicate, length-drop}
use lib.Seq.{append_snoc}
use borrow.Author.Tests.{eqb-true, le-leb}
use Rattle.model.specs.declared.Parameters.{Parameters}
use Rattle.model.specs.Load.{Accepted}
use Rattle.model.specs.Words.{Cell, cell_of, cell_words}
use Rattle.model.specs.Load.{lines, lines_from, fine, line_of, lines_reply, lines_words, text_reply, image_of}
use Rattle.model.specs.Images.{Yields, cell_fits, all_zero, cells_fit, image_fits}
use Rattle.model.proofs.Fits.{both}
use Rattle.model.proofs.Cells.{First, zeros, full, first_cell, zero-take, zero-drop, zero_empty}
use Rattle.listing.specs.Listing.{instruction_words, spaced, cell_listing, listing_from, listing}
use Rattle.listing.proofs.Bytes.{all, is_byte, is_inner, all_append, all-bytes, inner_byte, words_inner, line-back}
use Rattle.listing.proofs.Lines.{cell-words, cell-back, full-cell}

-- The first cell and the others.
front-cell : (ws : List ℕ) → 4 ≤ length ws → cell_words (cell_of (take 4 ws)) ++ drop 4 ws ≡ ws
front-cell [] h = absurd (omega arith)
front-cell (a ∷ []) h = absurd (omega arith)
front-cell (a ∷ b ∷ []) h = absurd (omega arith)
front-cell (a ∷ b ∷ c ∷ []) h = absurd (omega arith)
front-cell (a ∷ b ∷ c ∷ d ∷ ws) h = refl

-- EMPTY CELLS
zero-words : (ws : List ℕ) → all_zero ws ≡ true → replicate (length ws) 0 ≡ ws
unfolding all_zero
zero-words [] h = refl
zero-words (w ∷ ws) h =
    let k = both (eqb w 0) (all_zero ws) h in
    let z = eqb-true w 0 k.0 in
    let ih = zero-words ws k.1 in
    cc

-- "An empty cell writes no line".
zero-listing : (t : ℕ) (ws : List ℕ) → all_zero ws ≡ true → listing_from t ws ≡ []
unfolding listing_from cell_listing
zero-listing zero ws h = refl
zero-listing (suc t) ws h = rw (zero_empty (take 4 ws) (zero-take 4 ws h)) (zero-listing t (drop 4 ws) (zero-drop 4 ws h))

-- The t cells of these lines: "the others are empty".
abbrev pub filled : Parameters → (t : ℕ) → List (List ℕ) → List ℕ
filled p t ls = lines_words p ls ++ replicate (4 * (t - length ls)) 0

module _ (p : Parameters) where
  -- A line that is accepted.
  line_reply : (i : ℕ) (l : List ℕ) (ls : List (List ℕ)) (c : Cell) → line_of p l ≡ fine c → lines_reply p i (l ∷ ls) ≡ lines_reply p (suc i) ls
  unfolding lines_reply
  line_reply i l ls c e = simp (lines_reply, e)

  pub line-words : (l : List ℕ) (ls : List (List ℕ)) (c : Cell) → line_of p l ≡ fine c → lines_words p (l ∷ ls) ≡ cell_words c ++ lines_words p ls
  unfolding lines_words
  line-words l ls c e = simp (lines_words, e)

  -- s loads as the t cells ws.
  record LoadsAs (t : ℕ) (s ws : List ℕ) : Type 0 where
    bytes : all is_byte s ≡ true
    few : length (lines s) ≤ t
    accepted : (i : ℕ) → lines_reply p i (lines s) ≡ Accepted (i + length (lines s))
    same : filled p t (lines s) ≡ ws

  no-text-loads : (t : ℕ) (ws : List ℕ) → length ws ≡ 4 * t → all_zero ws ≡ true → LoadsAs t [] ws
  unfolding lines_from lines_reply lines_words
  no-text-loads t ws e h =
      let n : 4 * (t - 0) ≡ length ws = omega arith in
      record { bytes = refl; few = omega arith; accepted = λ i. ap Accepted (omega arith); same = rw n (zero-words ws h) }

  line-loads : (t : ℕ) (l s ws : List ℕ) (c : Cell) → all is_inner l ≡ true → line_of p l ≡ fine c → LoadsAs t s ws →
      LoadsAs (suc t) (l ++ (10 ∷ s)) (cell_words c ++ ws)
  line-loads t l s ws c h e r =
      let n : 4 * (suc t - suc (length (lines s))) ≡ 4 * (t - length (lines s)) = omega arith in
      record {
        bytes = all_append is_byte l (10 ∷ s) (inner_byte l h) r.bytes;
        few = rw (line-back l s h) (omega arith);
        accepted = λ i. rw (line-back l s h) (line_reply i l (lines s) c e ∙ r.accepted (suc i) ∙ ap Accepted (omega arith));
        same = rw (line-back l s h, line-words l (lines s) c e, n) (ap (λ (x : List ℕ). cell_words c ++ x) r.same);
      }

  -- "one instruction a line .., LF after each"
  cell-loads : (t : ℕ) (s ws : List ℕ) (c : Cell) → cell_fits p c ≡ true → LoadsAs t s ws → LoadsAs (suc t) (cell_listing c ++ s) (cell_words c ++ ws)
  unfolding cell_listing
  cell-loads t s ws c h r =
      rw (full-cell p c h, append_snoc)
      (line-loads t (spaced (instruction_words c)) s ws c (words_inner (instruction_words c) (cell-words c)) (cell-back p c h) r)

  cells_load : (t : ℕ) (ws : List ℕ) → length ws ≡ 4 * t → cells_fit p t ws ≡ true → LoadsAs t (listing_from t ws) ws
  unfolding listing_from all_zero
  cells_load zero ws e h = no-text-loads 0 ws e (none ws e)
    where
      none : (ws : List ℕ) → length ws ≡ 0 → all_zero ws ≡ true
      none [] e = refl
      none (w ∷ ws) e = absurd (omega arith)
  cells_load (suc t) ws e h = go (first_cell p t ws h) (cells_load t (drop 4 ws) rest)
    where
      rest : length (drop 4 ws) ≡ 4 * t
      rest = length-drop 4 ws ∙ omega arith

      go : First p t ws → (cells_fit p t (drop 4 ws) ≡ true → LoadsAs t (listing_from t (drop 4 ws)) (drop 4 ws)) →
          LoadsAs (suc t) (listing_from (suc t) ws) ws
      go (zeros z) ih = rw (zero-listing (suc t) ws z) (no-text-loads (suc t) ws e z)
      go (full f g) ih =
          let r = cell-loads t (listing_from t (drop 4 ws)) (drop 4 ws) (cell_of (take 4 ws)) f (ih g) in
          rw (front-cell ws (omega arith)) at r

  -- "Loading the listing with the same parameters gives the same image".
  pub listing-loads : (image : List ℕ) → length image ≡ 4 * p.t → image_fits p image ≡ true → Yields p (listing p image) image
  unfolding text_reply image_of
  listing-loads image e h =
      let s = listing p image in
      let r = cells_load p.t image e h in
      record {
        bytes = all-bytes s r.bytes;
        lines = length (lines s);
        accepted = simp (le-leb (length (lines s)) p.t r.few) (r.accepted 0 ∙ ap Accepted (omega arith));
        same = r.same;
      }
