-- Document 01, "Parameters and memory": the words and cells of an image.
use Rattle.std.specs.Prelude.{ℕ, suc, ◌+◌, ◌*◌, ◌-◌, ◌/◌, ◌%◌, ◌^◌, Bool, ◌&&◌, cond, List, [], ◌∷◌, eqb, ltb, ℤ, pos, negsuc, get_or, take, drop}

-- "A word's top two bits are its kind: 0 head, 1 register, 2 direct cell, 3 number."
abbrev pub kind_of : ℕ → ℕ
kind_of w = w / 2 ^ 30

-- Of these, the kinds of arguments.
abbrev pub register_kind : ℕ
register_kind = 1

abbrev pub direct_kind : ℕ
direct_kind = 2

abbrev pub number_kind : ℕ
number_kind = 3

-- "The low 30 bits hold the instruction's number, the register .., the cell's index, or the number".
abbrev pub content_of : ℕ → ℕ
content_of w = w % 2 ^ 30

-- "IAR 256, IRCR 257, SHR 258"
abbrev pub iar_number : ℕ
iar_number = 256

abbrev pub ircr_number : ℕ
ircr_number = 257

abbrev pub shr_number : ℕ
shr_number = 258

-- A word of a kind, with its content.
abbrev pub word_of : (kind content : ℕ) → ℕ
word_of kind content = kind * 2 ^ 30 + content

-- "the number in two's complement", of 30 bits: written,
abbrev pub number_bits : ℤ → ℕ
number_bits (pos n) = n
number_bits (negsuc n) = 2 ^ 30 - suc n

-- and read
abbrev pub number_of : ℕ → ℤ
number_of v = cond (ltb v (2 ^ 29)) (pos v) (negsuc (2 ^ 30 - suc v))

-- An argument. A special register has its number.
pub data Argument : Type 0 where
  register special direct : ℕ → Argument
  literal : ℤ → Argument

-- The word of an argument.
abbrev pub argument_word : Argument → ℕ
argument_word (register r) = word_of register_kind r
argument_word (special r) = word_of register_kind r
argument_word (direct d) = word_of direct_kind d
argument_word (literal z) = word_of number_kind (number_bits z)

-- Document 01's cell: "A cell is four consecutive words: a head and three arguments."
pub record Cell : Type 0 where
  pub head : ℕ
  pub first : ℕ
  pub second : ℕ
  pub third : ℕ

-- The head is the instruction's number; "An absent argument is 0."
abbrev pub cell_with : (head : ℕ) (arguments : List ℕ) → Cell
cell_with h xs = record { head = h; first = get_or xs 0 0; second = get_or xs 1 0; third = get_or xs 2 0 }

-- A cell from its four words, and back.
abbrev pub cell_of : List ℕ → Cell
cell_of ws = record { head = get_or ws 0 0; first = get_or ws 1 0; second = get_or ws 2 0; third = get_or ws 3 0 }

-- "four consecutive words"
abbrev pub cell_words : Cell → List ℕ
cell_words c = c.head ∷ c.first ∷ c.second ∷ c.third ∷ []

-- The cell at index i of an image ("a lent slice of 4·T unsigned 32-bit words").
abbrev pub cell_at : List ℕ → ℕ → Cell
cell_at image i = cell_of (take 4 (drop (4 * i) image))

-- "An empty cell is four zeros".
abbrev pub is_empty : Cell → Bool
is_empty c = eqb c.head 0 && eqb c.first 0 && eqb c.second 0 && eqb c.third 0
