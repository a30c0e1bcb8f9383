-- The lines that an iterator over a text has left.
use Rattle.std.specs.Prelude.{ℕ, Bool, List, eqb}
use Rattle.model.specs.Load.{lines}
use Rattle.text.specs.declared.lines.Lines.{Lines}

-- An LF.
abbrev pub is_line_feed : ℕ → Bool
is_line_feed b = eqb b 10

abbrev pub lines_left : Lines → List (List ℕ)
lines_left s = lines s.rest.now
