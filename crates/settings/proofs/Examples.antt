-- Files with their settings, computed. Assumes nothing.
use Prim.Native.Nat.{ℕ}
use Prim.Native.String.{String}
use mathlib.Core.Path.{◌≡◌, refl}
use mathlib.Core.List.{List, [], ◌∷◌, map}
use Rattle.model.specs.declared.Parameters.{Parameters}
use Rattle.model.specs.Numbers.{bytes, digits_from}
use Rattle.model.specs.Settings.{fields_from, setting, all_settings, zeros, settings}

pub record Example : Type 0 where
  pub file : String
  pub parameters : Parameters

abbrev pub good : String → (k n s b t : ℕ) → Example
good f k n s b t = record { file = f; parameters = record { k = k; n = n; s = s; b = b; t = t } }

abbrev pub bad : String → Example
bad f = record { file = f; parameters = zeros }

-- Blanks of each kind, leading zeros and the greatest value; then another count of words, ten digits, signs and other bytes.
abbrev pub examples : List Example
examples =
    good "8 2 4 2 6" 8 2 4 2 6
    ∷ good "\r\n8\t2 4 \n\n2\r6\r\n" 8 2 4 2 6
    ∷ good "000000008 2 04 002 6\n" 8 2 4 2 6
    ∷ good "0 1 999999999 123456789 10" 0 1 999999999 123456789 10
    ∷ bad ""
    ∷ bad " \t\r\n"
    ∷ bad "8 2 4 2\n"
    ∷ bad "8 2 4 2 6 1"
    ∷ bad "0 0 8 2 4 2 6"
    ∷ bad "0000000008 2 4 2 6"
    ∷ bad "8 2 4 2 1000000000"
    ∷ bad "+8 2 4 2 6"
    ∷ bad "8 2 4 2 -6"
    ∷ bad "8,2 4 2 6"
    ∷ bad "8, 2 4 2 6"
    ∷ bad "8 2 4 2 6 ,"
    ∷ bad "x 8 2 4 2 6"
    ∷ []

pub settings-examples : map (λ (x : Example). settings (bytes x.file)) examples ≡ map (λ (x : Example). x.parameters) examples
unfolding digits_from fields_from setting all_settings
settings-examples = refl
