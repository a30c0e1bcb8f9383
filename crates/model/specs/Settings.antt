-- Document 01, "Marked runs": `tak.par`, "(K N S B T as decimals between blanks)".
use Rattle.std.specs.Prelude.{ℕ, true, false, cond, List, [], ◌∷◌, ◌++◌, eqb, leb, length, get_or}
use Rattle.std.proofs.Math.Option.{Option, none, some}
use Rattle.model.specs.Load.{keep}
use Rattle.model.specs.Numbers.{is_blank, natural, mapped}
use Rattle.model.specs.declared.Parameters.{Parameters}

-- The words from w on, which is the beginning of one: "between blanks".
unfoldable pub fields_from : List ℕ → List ℕ → List (List ℕ)
fields_from w [] = keep w []
fields_from w (b ∷ s) = elim (is_blank b) [ true ↦ keep w (fields_from [] s) | false ↦ fields_from (w ++ (b ∷ [])) s ]

-- The words of the file.
abbrev pub fields : List ℕ → List (List ℕ)
fields s = fields_from [] s

-- The value of a word "of 1 to 9 digits, without signs".
unfoldable pub setting : List ℕ → Option ℕ
setting w = cond (leb (length w) 9) (natural w) none

-- The values of such words, if all are.
unfoldable pub all_settings : List (List ℕ) → Option (List ℕ)
all_settings [] = some []
all_settings (w ∷ ws) = elim (setting w) [ none ↦ none | some v ↦ mapped (λ (vs : List ℕ). v ∷ vs) (all_settings ws) ]

-- "five zeros"
abbrev pub zeros : Parameters
zeros = record { k = 0; n = 0; s = 0; b = 0; t = 0 }

-- "exactly five"; else "counts as five zeros".
abbrev pub five : Option (List ℕ) → Parameters
five none = zeros
five (some vs) =
    cond (eqb (length vs) 5) (record { k = get_or vs 0 0; n = get_or vs 1 0; s = get_or vs 2 0; b = get_or vs 3 0; t = get_or vs 4 0 }) zeros

-- "A `tak.par` that isn't exactly five words of 1 to 9 digits, without signs, counts as five zeros."
abbrev pub settings : List ℕ → Parameters
settings file = five (all_settings (fields file))
