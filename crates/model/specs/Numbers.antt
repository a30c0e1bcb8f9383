-- Bytes, and decimal numbers as IN reads them, as arguments are written ("a number as in IN") and as the decimal writer writes them.
use Rattle.std.specs.Prelude.{ℕ, zero, suc, ◌+◌, ◌*◌, ◌-◌, ◌/◌, ◌%◌, Bool, true, false, ◌&&◌, ◌||◌, cond, List, [], ◌∷◌, eqb, ltb, leb, ℤ, pos, negsuc, neg_ℤ}
use Prim.Native.Char.{code}
use Prim.Native.String.{String}
use Rattle.std.proofs.Math.Option.{Option, none, some}

-- A quoted text as the bytes of its characters (ASCII).
abbrev pub bytes : String → List ℕ
bytes String.[] = []
bytes (String.◌∷◌ c s) = code c ∷ bytes s

-- b is one of the bytes ks.
abbrev pub among : List ℕ → ℕ → Bool
among [] b = false
among (k ∷ ks) b = eqb b k || among ks b

-- "blanks (space, tab, CR, LF)"
abbrev pub is_blank : ℕ → Bool
is_blank b = among (9 ∷ 10 ∷ 13 ∷ 32 ∷ []) b

-- 0 to 9
abbrev pub is_digit : ℕ → Bool
is_digit b = leb 48 b && leb b 57

-- a to z as A to Z: "Case is ignored."
abbrev pub upper : ℕ → ℕ
upper b = cond (leb 97 b && leb b 122) (b - 32) b

-- The value of digits that follow digits of value n; none where a byte is no digit.
unfoldable pub digits_from : ℕ → List ℕ → Option ℕ
digits_from n [] = some n
digits_from n (b ∷ s) = elim (is_digit b) [ true ↦ digits_from (n * 10 + (b - 48)) s | false ↦ none ]

-- "digits only, at least one"; any count of them.
abbrev pub natural : List ℕ → Option ℕ
natural [] = none
natural (b ∷ s) = digits_from 0 (b ∷ s)

-- A function of what there is, if there is something.
abbrev pub mapped : {A B : Type 0} → (A → B) → Option A → Option B
mapped f none = none
mapped f (some a) = some (f a)

-- "an optional + or - followed by digits only"
abbrev pub number : List ℕ → Option ℤ
number [] = none
number (b ∷ s) =
    elim (eqb b 43) [
      | true ↦ mapped pos (natural s)
      | false ↦ elim (eqb b 45) [ true ↦ mapped (λ n. neg_ℤ (pos n)) (natural s) | false ↦ mapped pos (natural (b ∷ s)) ]
    ]

-- The digits of n in front of s; `fuel` bounds their count.
unfoldable pub digits_of : (fuel n : ℕ) → List ℕ → List ℕ
digits_of zero n s = s
digits_of (suc fuel) n s = elim (ltb n 10) [ true ↦ (48 + n) ∷ s | false ↦ digits_of fuel (n / 10) ((48 + n % 10) ∷ s) ]

-- "the digits, - first if negative, no leading zeros (zero is one 0)"
abbrev pub decimal : ℤ → List ℕ
decimal (pos n) = digits_of (suc n) n []
decimal (negsuc n) = 45 ∷ digits_of (suc (suc n)) (suc n) []

-- The most bytes of a number of 32 bits: a minus and ten digits.
abbrev pub longest_decimal : ℕ
longest_decimal = 11
