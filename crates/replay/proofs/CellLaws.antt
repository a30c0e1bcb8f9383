-- What the decoder's answers say of a cell. Assumes nothing.
use Rattle.std.proofs.Common.{◌≡◌, Bool, true, false, sym, refl, ◌∙◌, subst}
use Rattle.model.specs.declared.Parameters.{Parameters}
use Rattle.model.specs.Words.{Cell, is_empty}
use Rattle.model.specs.Images.{cell_fits}
use Rattle.image.specs.declared.decode.Instruction.{Instruction}
use Rattle.image.specs.declared.decode.Decoded.{Decoded}
use Rattle.image.specs.declared.decode.Decoded.TheVariants.{Runs, Empty, Invalid}
use Rattle.image.specs.Decode.{cell_from, decoded_of}

-- An answer's instruction fits.
abbrev RunsFit : Parameters → Decoded → Type 0
RunsFit p (Runs i) = cell_fits p (cell_from i) ≡ true
RunsFit p Empty = true ≡ true
RunsFit p Invalid = true ≡ true

answers-fit : (p : Parameters) (c : Cell) → RunsFit p (decoded_of p c)
unfolding decoded_of
answers-fit p c = go (is_empty c) refl (cell_fits p c) refl
  where
    go : (e : Bool) → is_empty c ≡ e → (f : Bool) → cell_fits p c ≡ f → RunsFit p (decoded_of p c)
    go true h f k = rw h refl
    go false h true k = rw (h, k) k
    go false h false k = rw (h, k) refl

pub runs_fit : (p : Parameters) (c : Cell) {d : Decoded} {i : Instruction} → d ≡ decoded_of p c → d ≡ Runs i → cell_fits p (cell_from i) ≡ true
runs_fit p c e h = subst (RunsFit p) (sym e ∙ h) (answers-fit p c)
