-- What the decimal writer answers.
use Rattle.std.specs.Prelude.{ℕ, List, Result}
use Rattle.model.specs.declared.Refusal.{Refusal}
use Rattle.model.specs.Calls.{Spelled}
use Rattle.model.specs.Replies.{decimal_answer}

-- The reply together with the lent bytes.
abbrev pub written : Result ℕ Refusal → List ℕ → Spelled
written r out = record { reply = decimal_answer r; bytes = out }
