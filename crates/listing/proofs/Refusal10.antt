-- Refusal 10, "an image that no text yields under the loading rules": exactly the images that fail the test on cells; and when a list of
-- checks gives it. Assumes nothing.
use Prim.Native.Nat.{ℕ, zero, suc, ◌*◌, ◌-◌, ◌≤◌}
use mathlib.Core.Path.{◌≡◌, refl, ◌∙◌}
use mathlib.Core.Bool.{Bool, true, false, cond}
use mathlib.Core.List.{List, [], ◌∷◌, ◌++◌}
use mathlib.Core.Logic.{◌↔◌}
use native.Mathlib.Omega.{arith}
use lib.Dec.{leb}
use lib.ListN.{length, take, replicate, length-replicate}
use borrow.Author.Tests.{leb-true}
use Rattle.model.specs.declared.Parameters.{Parameters}
use Rattle.model.specs.Load.{LoadReply}
use Rattle.model.specs.Load.{Accepted, Refused}
use Rattle.model.specs.Parameters.{Check, refusal_of, Fit}
use Rattle.model.specs.Words.{Cell, cell_words}
use Rattle.model.specs.Load.{lines, Checked, fine, fault, words, line_of, lines_reply, lines_words, text_reply, image_of}
use Rattle.model.specs.Calls.{image_check, size_checks}
use Rattle.model.specs.Step.{Environment, Memory}
use Rattle.model.specs.Images.{Yields, NoTextYields, cell_fits, all_zero, cells_fit, image_fits}
use Rattle.model.proofs.Fits.{and_both, Numbered, all_fit, lacks, only-number, Limits, limits, sizes-numbered, sizes_lack, sizes-fit}
use Rattle.model.proofs.Cells.{zero-take, zero_empty}
use Rattle.listing.specs.Listing.{listing}
use Rattle.listing.proofs.Lines.{full-cell, line-fits}
use Rattle.listing.proofs.Loads.{filled, line-words, listing-loads}

all-zero : (n : ℕ) → all_zero (replicate n 0) ≡ true
unfolding all_zero
all-zero zero = refl
all-zero (suc n) = all-zero n

module _ (p : Parameters) where
  -- An image of t cells that passes the test.
  abbrev Fits : (t : ℕ) (ws : List ℕ) → Type 0
  Fits t ws = (length ws ≡ 4 * t) × (cells_fit p t ws ≡ true)

  zeros-fit : (t : ℕ) (ws : List ℕ) → all_zero ws ≡ true → cells_fit p t ws ≡ true
  unfolding cells_fit
  zeros-fit zero ws h = refl
  zeros-fit (suc t) ws h = simp (cells_fit, zero_empty (take 4 ws) (zero-take 4 ws h)) h

  cell_then : (t : ℕ) (c : Cell) (ws : List ℕ) → cell_fits p c ≡ true → Fits t ws → Fits (suc t) (cell_words c ++ ws)
  unfolding cells_fit
  cell_then t c ws f h = (omega arith, simp (cells_fit, full-cell p c f) (and_both f h.1))

  module _ (limits : Limits p) where
    lines_fit : (ls : List (List ℕ)) (t i n : ℕ) → length ls ≤ t → lines_reply p i ls ≡ Accepted n → Fits t (filled p t ls)
    unfolding lines_reply lines_words
    lines_fit [] t i n l h = (length-replicate (4 * (t - 0)) 0 ∙ omega arith, zeros-fit t _ (all-zero (4 * (t - 0))))
    lines_fit (l ∷ ls) zero i n k h = absurd (omega arith)
    lines_fit (l ∷ ls) (suc t) i n k h = go (line_of p l) refl (lines_fit ls t (suc i) n (omega arith)) h
      where
        go : (o : Checked Cell) → line_of p l ≡ o → (lines_reply p (suc i) ls ≡ Accepted n → Fits t (filled p t ls)) →
            (elim o as (λ x. LoadReply) [ fine c ↦ lines_reply p (suc i) ls | fault k ↦ Refused k i ]) ≡ Accepted n →
            Fits (suc t) (filled p (suc t) (l ∷ ls))
        go (fine c) e ih h =
            let m : 4 * (suc t - suc (length ls)) ≡ 4 * (t - length ls) = omega arith in
            rw (line-words p l ls c e, m) (cell_then t c (filled p t ls) (line-fits p limits (words l) c e) (ih h))
        go (fault k) e ih h = let z : ◌≡◌ {A = ℕ} 0 1 = cc in absurd (omega arith)

  -- An image that a text yields has 4·T words, and its cells fit.
  pub yields-fits : Fit p → (text image : List ℕ) → Yields p text image → (length image ≡ 4 * p.t) × (image_fits p image ≡ true)
  unfolding text_reply image_of
  yields-fits fit text image y = rw y.same at (go (leb (length (lines text)) p.t) refl y.accepted)
    where
      go : (b : Bool) → leb (length (lines text)) p.t ≡ b → cond b (lines_reply p 0 (lines text)) (Refused 8 0) ≡ Accepted y.lines →
          Fits p.t (filled p p.t (lines text))
      go true e h = lines_fit (limits p fit) (lines text) p.t 0 y.lines (leb-true (length (lines text)) p.t e) h
      go false e h = let z : ◌≡◌ {A = ℕ} 0 1 = cc in absurd (omega arith)

module _ (p : Parameters) (fit : Fit p) (image : List ℕ) (size : length image ≡ 4 * p.t) where
  -- An image passes the test on cells exactly when some text yields it.
  pub some-text_yields : (image_fits p image ≡ true) ↔ ((text : List ℕ) × Yields p text image)
  some-text_yields = (λ h. (listing p image, listing-loads p image size h), λ (text, y). (yields-fits p fit text image y).1)

  -- It fails the test exactly when it is "an image that no text yields under the loading rules, refusal 7 disregarded".
  pub no-text_yields : (image_fits p image ≡ false) ↔ NoTextYields p image
  no-text_yields = (fails, go (image_fits p image) refl)
    where
      fails : image_fits p image ≡ false → NoTextYields p image
      fails h text y = let k = (yields-fits p fit text image y).1 in let z : ◌≡◌ {A = ℕ} 0 1 = cc in omega arith

      go : (b : Bool) → image_fits p image ≡ b → NoTextYields p image → b ≡ false
      go true e n = absurd (n (listing p image) (listing-loads p image size e))
      go false e n = refl

-- LISTS OF CHECKS in which 10 stands once, behind checks that see to the parameters and the image's length.
module _ (p : Parameters) (image : List ℕ) (earlier later : List Check) (numbered : Numbered earlier)
    (before : lacks 10 earlier ≡ true) (after : lacks 10 later ≡ true)
    (sized : refusal_of earlier ≡ 0 → Fit p × (length image ≡ 4 * p.t)) where
  abbrev number : ℕ
  number = refusal_of (earlier ++ (image_check p image ∷ later))

  by-cells : (number ≡ 10) ↔ ((refusal_of earlier ≡ 0) × (image_fits p image ≡ false))
  by-cells = only-number 10 (image_fits p image) later (omega arith) after earlier numbered before

  -- 10 is given exactly where the checks before it pass and no text yields the image.
  pub gives_10 : (number ≡ 10) ↔ ((refusal_of earlier ≡ 0) × NoTextYields p image)
  gives_10 = (there, back)
    where
      there : number ≡ 10 → (refusal_of earlier ≡ 0) × NoTextYields p image
      there e =
          let t = by-cells.0 e in
          let s = sized t.0 in
          (t.0, (no-text_yields p s.0 image s.1).0 t.1)

      back : (refusal_of earlier ≡ 0) × NoTextYields p image → number ≡ 10
      back t =
          let s = sized t.0 in
          by-cells.1 (t.0, (no-text_yields p s.0 image s.1).1 t.1)

  -- So where they pass and it is not given, some text does.
  pub unless_10 : refusal_of earlier ≡ 0 → ¬ (number ≡ 10) → (text : List ℕ) × Yields p text image
  unless_10 h n = go (image_fits p image) refl
    where
      go : (b : Bool) → image_fits p image ≡ b → (text : List ℕ) × Yields p text image
      go true e = (some-text_yields p (sized h).0 image (sized h).1).0 e
      go false e = absurd (n (by-cells.1 (h, e)))

-- Those that begin "1..6; 9 ..; 10", as start's and grant's do.
module _ (e : Environment) (m : Memory) (later : List Check) (after : lacks 10 later ≡ true) where
  abbrev p : Parameters
  p = e.parameters

  abbrev sizes : List Check
  sizes = size_checks e m

  passed : refusal_of sizes ≡ 0 → Fit p × (length e.image ≡ 4 * p.t)
  passed h = let s = sizes-fit e m (all_fit sizes (sizes-numbered e m) h) in (s.0, s.1)

  pub sized_gives_10 : (refusal_of (sizes ++ (image_check p e.image ∷ later)) ≡ 10) ↔ ((refusal_of sizes ≡ 0) × NoTextYields p e.image)
  sized_gives_10 = gives_10 p e.image sizes later (sizes-numbered e m) (sizes_lack e m) after passed

  pub sized_unless_10 : refusal_of sizes ≡ 0 → ¬ (refusal_of (sizes ++ (image_check p e.image ∷ later)) ≡ 10) →
      (text : List ℕ) × Yields p text e.image
  sized_unless_10 = unless_10 p e.image sizes later (sizes-numbered e m) (sizes_lack e m) after passed
