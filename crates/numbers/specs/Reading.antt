-- What reading a number answers.
use Rattle.std.specs.Prelude.{ℕ, ◌^◌, min, Bool, true, false, cond, [], ◌∷◌, ltb, leb, ℤ, pos, neg_ℤ, Option, Some, None, Result, Ok, Err}
use Rattle.std.proofs.Math.Option as maybe
use Rattle.std.proofs.Math.Option.{none, some}
use Rattle.model.specs.Parameters.{in_range}
use Rattle.model.specs.Arithmetic.{Answer, value, code}
use Rattle.model.specs.Numbers.{among}
use Rattle.numbers.specs.declared.reading.NumberError.{NumberError}
use Rattle.numbers.specs.declared.reading.NumberError.TheVariants.{NotANumber, Outside}

-- A value is held at most at 2^30. Every limit of an index or a number is at most 2^29, so that one from 2^30 on is outside all the same.
abbrev pub capped : maybe.Option ℕ → Option ℕ
capped none = None
capped (some n) = Some (min (2 ^ 30) n)

-- "an optional + or -": how many bytes of a word are its sign, by its first byte.
abbrev pub sign_length : ℕ → ℕ
sign_length b = cond (among (43 ∷ 45 ∷ []) b) 1 0

-- A number of -m..m-1. For load `NotANumber` is 13 and `Outside` 14.
abbrev pub reading_of : (m : ℕ) → maybe.Option ℤ → Result ℤ NumberError
reading_of m none = Err NotANumber
reading_of m (some z) = cond (in_range m z) (Ok z) (Err Outside)

-- IN's answer for each case: "Not an optional + or - followed by digits only, at least one: code 1. Outside the range: code 2."
abbrev pub answer_of : Result ℤ NumberError → Answer
answer_of (Ok z) = value z
answer_of (Err NotANumber) = code 1
answer_of (Err Outside) = code 2

-- The number of digits behind a minus, which is the flag, or behind no sign or a plus.
abbrev pub signed_of : (m : ℕ) → Bool → Option ℕ → Result ℤ NumberError
signed_of m minus None = Err NotANumber
signed_of m true (Some v) = cond (leb v m) (Ok (neg_ℤ (pos v))) (Err Outside)
signed_of m false (Some v) = cond (ltb v m) (Ok (pos v)) (Err Outside)
