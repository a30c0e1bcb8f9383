-- What parsing a line answers.
use Rattle.std.specs.Prelude.{ℕ, zero, suc, ◌/◌, ◌%◌, cond, List, [], ◌∷◌, ◌++◌, eqb, ltb, length, Result, Ok, Err}
use Rattle.model.specs.declared.Refusal.{Refusal}
use Rattle.model.specs.Replies.{refusal_number_of}
use Rattle.model.specs.declared.Parameters.{Parameters}
use Rattle.model.specs.Words.{Cell}
use Rattle.model.specs.Load.{Checked, fault, arguments_from, headed}

-- The count of packed forms, of which there are three at most.
abbrev pub form_count : ℕ → ℕ
form_count n = cond (eqb n 0) 0 (cond (ltb n 16) 1 (cond (ltb n 256) 2 3))

-- "12 wrong count of arguments", then the arguments behind xs: from any argument of a line on.
unfoldable pub counted : Parameters → (number : ℕ) (xs forms : List ℕ) (ws : List (List ℕ)) → Checked Cell
counted p n xs fs ws = cond (eqb (length ws) (length fs)) (headed n (arguments_from p xs fs ws)) (fault 12)

-- The forms of so many places, one by one,
unfoldable pub unpacked_few : (places : ℕ) → ℕ → List ℕ
unpacked_few zero n = []
unpacked_few (suc k) n = cond (eqb n 0) [] (n % 16 ∷ unpacked_few k (n / 16))

-- and of three.
abbrev pub unpacked : ℕ → List ℕ
unpacked n = unpacked_few 3 n

-- What a line comes to from an argument on that was read: its fault, or what the words behind it come to.
abbrev pub counted_on : Parameters → (number : ℕ) (xs forms : List ℕ) (ws : List (List ℕ)) → Result ℕ Refusal → Checked Cell
counted_on p n xs fs ws (Ok x) = counted p n (xs ++ (x ∷ [])) fs ws
counted_on p n xs fs ws (Err r) = fault (refusal_number_of r)
