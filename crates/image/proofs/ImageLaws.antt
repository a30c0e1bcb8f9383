-- The check of an image, turn by turn. Assumes nothing.
use Prim.Native.Nat.{ℕ, zero, suc, ◌+◌, ◌*◌, ◌-◌, ◌≤◌, ◌<◌}
use mathlib.Core.Path.{◌≡◌, refl, sym, ap, ◌∙◌}
use mathlib.Core.Bool.{Bool, true, false}
use mathlib.Core.List.{List, [], ◌∷◌}
use native.Mathlib.Omega.{arith}
use lib.Dec.{eqb}
use lib.ListN.{get_or, take, drop}
use lib.Seq.{drop-drop}
use Rattle.std.specs.List.{list_all}
use Rattle.model.specs.declared.Parameters.{Parameters}
use Rattle.model.specs.Words.{Cell, cell_of, is_empty}
use Rattle.model.specs.Images.{cell_fits, all_zero, cells_fit, image_fits}
use Rattle.image.specs.declared.decode.Instruction.{Instruction}
use Rattle.image.specs.declared.decode.Decoded.{Decoded}
use Rattle.image.specs.declared.decode.Decoded.TheVariants.{Runs, Empty, Invalid}
use Rattle.image.specs.Decode.{decoded_of}
use Rattle.std.specs.Simd.{first_chunks}

-- ZEROS
pub zeros : (ws : List ℕ) → list_all (λ w. eqb w 0) ws ≡ all_zero ws
unfolding all_zero
zeros [] = refl
zeros (w ∷ ws) = rw (zeros ws)

-- The chunk at a place.
chunk_at : (k n : ℕ) (ws : List ℕ) → n < k → get_or (first_chunks 4 k ws) n [] ≡ take 4 (drop (4 * n) ws)
chunk_at zero n ws h = absurd (omega arith)
chunk_at (suc k) zero ws h = refl
chunk_at (suc k) (suc n) ws h =
    let e : 4 + 4 * n ≡ 4 * suc n = omega arith in
    let f = drop-drop (4 * n) 4 ws ∙ ap (λ (i : ℕ). drop i ws) e in
    chunk_at k n (drop 4 ws) (omega arith) ∙ ap (take 4) f

-- CELLS. What is left to test behind a cell that was decoded.
abbrev behind : Parameters → (t : ℕ) (ws : List ℕ) → Decoded → Bool
behind p t ws (Runs i) = cells_fit p t (drop 4 ws)
behind p t ws Empty = all_zero ws
behind p t ws Invalid = false

first_cell : (p : Parameters) (t : ℕ) (ws : List ℕ) → cells_fit p (suc t) ws ≡ behind p t ws (decoded_of p (cell_of (take 4 ws)))
unfolding cells_fit decoded_of
first_cell p t ws = go (is_empty c) refl (cell_fits p c) refl
  where
    c : Cell
    c = cell_of (take 4 ws)

    go : (e : Bool) → is_empty c ≡ e → (f : Bool) → cell_fits p c ≡ f → cells_fit p (suc t) ws ≡ behind p t ws (decoded_of p c)
    go true h f k = simp (cells_fit, decoded_of, h)
    go false h true k = simp (cells_fit, decoded_of, h, k)
    go false h false k = simp (cells_fit, decoded_of, h, k)

-- The image fits if the cells from the n-th on do.
abbrev pub Remaining : (p : Parameters) (image : List ℕ) (n : ℕ) → Type 0
Remaining p image n = image_fits p image ≡ cells_fit p (p.t - n) (drop (4 * n) image)

module _ (p : Parameters) (image : List ℕ) {n : ℕ} (g : Remaining p image n) where
  pub ends : p.t ≤ n → true ≡ image_fits p image
  unfolding cells_fit
  ends l = let e : p.t - n ≡ 0 = omega arith in sym (rw e at g)

  module _ {k : ℕ} (l : n < k) (few : k ≡ p.t) {d : Decoded} (e : d ≡ decoded_of p (cell_of (get_or (first_chunks 4 k image) n []))) where
    told : image_fits p image ≡ behind p (p.t - (n + 1)) (drop (4 * n) image) d
    told =
        let f : p.t - n ≡ suc (p.t - (n + 1)) = omega arith in
        rw f at g
        ∙ first_cell p (p.t - (n + 1)) (drop (4 * n) image)
        ∙ ap (behind p (p.t - (n + 1)) (drop (4 * n) image)) (ap (λ (ws : List ℕ). decoded_of p (cell_of ws)) (sym (chunk_at k n image l)) ∙ sym e)

    pub cell-runs : {i : Instruction} → d ≡ Runs i → Remaining p image (n + 1)
    cell-runs q =
        let m : 4 * n + 4 ≡ 4 * (n + 1) = omega arith in
        rw q at told ∙ ap (cells_fit p (p.t - (n + 1))) (drop-drop 4 (4 * n) image ∙ ap (λ (j : ℕ). drop j image) m)

    pub cell_empty : d ≡ Empty → all_zero (drop (4 * n) image) ≡ image_fits p image
    cell_empty q = sym (rw q at told)

    pub cell_invalid : d ≡ Invalid → false ≡ image_fits p image
    cell_invalid q = sym (rw q at told)
