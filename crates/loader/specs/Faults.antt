-- What reading an argument or a line answers.
use Rattle.std.specs.Prelude.{ℕ, cond, ltb, Option, Some, None, Result, Ok, Err}
use Rattle.model.specs.declared.Refusal.{Refusal}
use Rattle.model.specs.Replies.{refusal_number_of}
use Rattle.model.specs.Words.{word_of}
use Rattle.model.specs.Load.{Checked, fine, fault}

-- What the code found, as the definitions have it: something, or the number of a fault.
abbrev pub checked_of : {A B : Type 0} → (A → B) → Result A Refusal → Checked B
checked_of f (Ok x) = fine (f x)
checked_of f (Err r) = fault (refusal_number_of r)

-- A register or a cell by the digits of its index, of those below the count: 13 without digits, 14 from the count on.
abbrev pub indexed_of : (kind count : ℕ) → Option ℕ → Checked ℕ
indexed_of kind count None = fault 13
indexed_of kind count (Some v) = cond (ltb v count) (fine (word_of kind v)) (fault 14)
