-- What the decoder answers.
use Rattle.std.specs.Prelude.{ℕ, ◌/◌, ◌%◌, Bool, ◌&&◌, cond, eqb}
use Rattle.model.specs.declared.Parameters.{Parameters}
use Rattle.model.specs.Words.{Cell, is_empty}
use Rattle.model.specs.Images.{word_fits, cell_fits}
use Rattle.image.specs.declared.decode.Instruction.{Instruction}
use Rattle.image.specs.declared.decode.Decoded.{Decoded}
use Rattle.image.specs.declared.decode.Decoded.TheVariants.{Runs, Empty, Invalid}

-- "A cell is four consecutive words: a head and three arguments", as the code has it,
abbrev pub instruction_of : Cell → Instruction
instruction_of c = record { number = c.head; first = c.first; second = c.second; third = c.third }

-- and back.
abbrev pub cell_from : Instruction → Cell
cell_from i = record { head = i.number; first = i.first; second = i.second; third = i.third }

-- A word at a place with this form; "An absent argument is 0", and has form 0.
unfoldable pub argument_word_fits : Parameters → (form word : ℕ) → Bool
argument_word_fits p form w = cond (eqb form 0) (eqb w 0) (word_fits p form w)

-- The three words at the places of packed forms.
unfoldable pub argument_words_fit : Parameters → (forms first second third : ℕ) → Bool
argument_words_fit p f x y z = argument_word_fits p (f % 16) x && (argument_word_fits p (f / 16 % 16) y && argument_word_fits p (f / 256) z)

-- An empty cell, an instruction that a text can yield, or neither.
unfoldable pub decoded_of : Parameters → Cell → Decoded
decoded_of p c = cond (is_empty c) Empty (cond (cell_fits p c) (Runs (instruction_of c)) Invalid)
