-- Document 01, "Marked runs": the lines that `takrun` prints. "One space parts the fields of a line and LF ends it."
use Rattle.std.specs.Prelude.{ℕ, List, [], ◌∷◌, ◌++◌, ℤ, pos}
use Rattle.model.specs.declared.Ending.{Ending}
use Rattle.model.specs.Numbers.{bytes, decimal}
use Rattle.model.specs.Calls.{ending_word}

-- a space and a number
abbrev pub field : ℕ → List ℕ
field n = 32 ∷ decimal (pos n)

-- "It prints each value on a line"
abbrev pub value_line : ℤ → List ℕ
value_line z = decimal z ++ (10 ∷ [])

unfoldable pub value_lines : List ℤ → List ℕ
value_lines [] = []
value_lines (z ∷ zs) = value_line z ++ value_lines zs

-- "then on one line the ending in capitals, IRCR, IAR and spent"
abbrev pub ending_line : Ending → (ircr iar spent : ℕ) → List ℕ
ending_line e ircr iar spent = ending_word e ++ field ircr ++ field iar ++ field spent ++ (10 ∷ [])

-- "A refused call prints one line, `REFUSED`, number, line index"
abbrev pub refusal_line : (number index : ℕ) → List ℕ
refusal_line number index = bytes "REFUSED" ++ field number ++ field index ++ (10 ∷ [])
