-- What finding a token of an input answers.
use Rattle.std.specs.Prelude.{ℕ, ◌+◌, ◌≤◌, ◌<◌, ◌≡◌, List, length, drop, Option, Some, None}
use Rattle.model.specs.Step.{blanks_of, token_of}
use Rattle.text.specs.declared.tokens.Span.{Span}
use Rattle.text.specs.Parts.{part}

-- The blanks from p on end at `start`, and the token behind them is the part up to `end`.
pub record NextToken (t : List ℕ) (p start end : ℕ) : Type 0 where
  pub blanks : start ≡ p + blanks_of (drop p t)
  pub ordered : start ≤ end
  pub high : end ≤ length t
  pub place : end ≡ start + length (token_of (drop start t))
  pub token : part start end t ≡ token_of (drop start t)

-- What is found from p on: a token, which has a byte, or none where only blanks are left.
abbrev pub TokenFrom : (t : List ℕ) (p : ℕ) → Option Span → Type 0
TokenFrom t p (Some s) = NextToken t p s.start s.end × (s.start < s.end)
TokenFrom t p None = blanks_of (drop p t) ≡ length (drop p t)
