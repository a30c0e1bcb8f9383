-- Document 01, "Loading", and load's replies.
use Rattle.std.specs.Prelude.{ℕ, zero, suc, ◌*◌, ◌-◌, ◌/◌, ◌%◌, Bool, true, false, ◌&&◌, cond, List, [], ◌∷◌, ◌++◌, map, eqb, ltb, leb, length, replicate}
use Rattle.std.proofs.Math.Option.{Option, none, some}
use Rattle.model.specs.declared.Parameters.{Parameters}
use Rattle.model.specs.Parameters.{Check, ◌unless◌, refusal_of, parameter_checks, limit, max_text, in_range}
use Rattle.model.specs.Words.{Argument, register, special, direct, literal, argument_word, iar_number, ircr_number, shr_number, Cell, cell_with, cell_words}
use Rattle.model.specs.Numbers.{bytes, among, upper, mapped, natural, number}
use Rattle.model.specs.Instructions.{Row, rows, nop_number, divr_number, row_of}

-- w in front of ws, unless it is empty
abbrev pub keep : List ℕ → List (List ℕ) → List (List ℕ)
keep [] ws = ws
keep (b ∷ w) ws = (b ∷ w) ∷ ws

-- "Lines are separated by LF; a final LF begins no line, and the empty text has none." w is the line's beginning.
unfoldable pub lines_from : List ℕ → List ℕ → List (List ℕ)
lines_from w [] = keep w []
lines_from w (b ∷ s) = elim (eqb b 10) [ true ↦ w ∷ lines_from [] s | false ↦ lines_from (w ++ (b ∷ [])) s ]

-- The lines of a text.
abbrev pub lines : List ℕ → List (List ℕ)
lines s = lines_from [] s

-- "`/`, `#` or `;` begins a comment to the line's end."
abbrev pub is_comment : ℕ → Bool
is_comment b = among (35 ∷ 47 ∷ 59 ∷ []) b

-- "Space, tab, CR and comma separate words and may lead or trail."
abbrev pub is_separator : ℕ → Bool
is_separator b = among (9 ∷ 13 ∷ 32 ∷ 44 ∷ []) b

-- The words of a line, from w on, which is the beginning of one.
unfoldable pub words_from : List ℕ → List ℕ → List (List ℕ)
words_from w [] = keep w []
words_from w (b ∷ s) =
    elim (is_comment b) [
      | true ↦ keep w []
      | false ↦ elim (is_separator b) [ true ↦ keep w (words_from [] s) | false ↦ words_from (w ++ (b ∷ [])) s ]
    ]

-- The words of a line.
abbrev pub words : List ℕ → List (List ℕ)
words l = words_from [] l

-- "Case is ignored": a word is a name written in capitals.
unfoldable pub same_word : List ℕ → List ℕ → Bool
same_word [] [] = true
same_word [] (y ∷ ys) = false
same_word (x ∷ xs) [] = false
same_word (x ∷ xs) (y ∷ ys) = eqb (upper x) y && same_word xs ys

-- The place of a name among names that count from k; 0 where the word is none.
unfoldable pub lookup_from : ℕ → List ℕ → List (List ℕ) → ℕ
lookup_from k w [] = 0
lookup_from k w (n ∷ ns) = elim (same_word w n) [ true ↦ k | false ↦ lookup_from (suc k) w ns ]

-- The names, in the order of their numbers.
unfoldable pub names : List (List ℕ)
names = map (λ (r : Row). r.name) rows

-- The instruction's number by its name.
abbrev pub lookup : List ℕ → ℕ
lookup w = lookup_from 1 w names

-- "IAR, IRCR, SHR", by number; 0 for another word.
unfoldable pub special_of : List ℕ → ℕ
special_of w =
    elim (same_word w (bytes "IAR")) [
      | true ↦ iar_number
      | false ↦ elim (same_word w (bytes "IRCR")) [ true ↦ ircr_number | false ↦ elim (same_word w (bytes "SHR")) [ true ↦ shr_number | false ↦ 0 ] ]
    ]

-- "DM with digits", from behind the D
abbrev pub after_d : List ℕ → Option Argument
after_d [] = none
after_d (b ∷ s) = elim (eqb (upper b) 77) [ true ↦ mapped direct (natural s) | false ↦ none ]

-- "R or DM with digits .. or a number as in IN. Leading zeros are allowed."
unfoldable pub plain : List ℕ → Option Argument
plain [] = none
plain (b ∷ s) =
    elim (eqb (upper b) 82) [
      | true ↦ mapped register (natural s)
      | false ↦ elim (eqb (upper b) 68) [ true ↦ after_d s | false ↦ mapped literal (number (b ∷ s)) ]
    ]

-- "Arguments: R or DM with digits, IAR, IRCR, SHR, or a number as in IN."
unfoldable pub argument : List ℕ → Option Argument
argument w = elim (eqb (special_of w) 0) [ true ↦ plain w | false ↦ some (special (special_of w)) ]

-- Something, or the number of a fault: 11 to 14 and 19.
pub data Checked (A : Type 0) : Type 0 where
  fine : A → Checked A
  fault : ℕ → Checked A

-- A place's form allows an argument.
unfoldable pub allows : ℕ → Argument → Bool
allows form (register r) = eqb (form % 2) 1
allows form (special r) = eqb (form / 2 % 2) 1
allows form (direct d) = eqb (form / 4 % 2) 1
allows form (literal z) = eqb (form / 8 % 2) 1

-- None of "register ≥ N, cell ≥ B, or number outside the range".
unfoldable pub is_within : Parameters → Argument → Bool
is_within p (register r) = ltb r p.n
is_within p (special r) = true
is_within p (direct d) = ltb d p.b
is_within p (literal z) = in_range (limit p.k) z

-- "13 (not an argument, or a form that place does not allow, a written special register included), 14 (..)"
abbrev pub checked_argument : Parameters → ℕ → Option Argument → Checked ℕ
checked_argument p form none = fault 13
checked_argument p form (some a) = cond (allows form a) (cond (is_within p a) (fine (argument_word a)) (fault 14)) (fault 13)

-- "for each argument from the left": the words behind xs, or the first fault
unfoldable pub arguments_from : Parameters → List ℕ → (forms : List ℕ) → List (List ℕ) → Checked (List ℕ)
arguments_from p xs [] ws = fine xs
arguments_from p xs (f ∷ fs) [] = fault 12
arguments_from p xs (f ∷ fs) (w ∷ ws) =
    elim (checked_argument p f (argument w)) [ fine x ↦ arguments_from p (xs ++ (x ∷ [])) fs ws | fault k ↦ fault k ]

-- Request E3: "ARG1 and ARG3 are one register" of a DIVR, where both are registers.
abbrev pub one_target : Cell → Bool
one_target c = eqb c.head divr_number && eqb c.first c.third

-- "19 .. after the three arguments have passed 13 and 14".
abbrev pub unless_one_target : Cell → Checked Cell
unless_one_target c = cond (one_target c) (fault 19) (fine c)

-- The instruction's number in front of its arguments.
abbrev pub headed : ℕ → Checked (List ℕ) → Checked Cell
headed n (fine xs) = unless_one_target (cell_with n xs)
headed n (fault k) = fault k

-- "11 unknown instruction, 12 wrong count of arguments", then the arguments, then 19. "A line without words is NOP."
unfoldable pub line_cell : Parameters → List (List ℕ) → Checked Cell
line_cell p [] = fine (cell_with nop_number [])
line_cell p (w ∷ ws) =
    elim (eqb (lookup w) 0) [
      | true ↦ fault 11
      | false ↦
          elim (eqb (length ws) (length (row_of (lookup w)).forms)) [
            | true ↦ headed (lookup w) (arguments_from p [] (row_of (lookup w)).forms ws)
            | false ↦ fault 12
          ]
    ]

-- What a line's bytes say.
abbrev pub line_of : Parameters → List ℕ → Checked Cell
line_of p l = line_cell p (words l)

-- What load replies: the count of lines, or the refusal's number and the faulty line's index.
pub data LoadReply : Type 0 where
  Accepted : (lines : ℕ) → LoadReply
  Refused : (refusal line : ℕ) → LoadReply

-- "the first faulty line, with its index", counted from i; or the count of lines
unfoldable pub lines_reply : Parameters → ℕ → List (List ℕ) → LoadReply
lines_reply p i [] = Accepted i
lines_reply p i (l ∷ ls) = elim (line_of p l) [ fine c ↦ lines_reply p (suc i) ls | fault k ↦ Refused k i ]

-- "Line i, from 0, fills cell i"
abbrev pub words_of : Checked Cell → List ℕ
words_of (fine c) = cell_words c
words_of (fault k) = []

-- The words of all lines.
unfoldable pub lines_words : Parameters → List (List ℕ) → List ℕ
lines_words p [] = []
lines_words p (l ∷ ls) = words_of (line_of p l) ++ lines_words p ls

-- What the text alone is refused for, 8 ("more than T lines"), 11 to 14 and 19; or the count of lines.
unfoldable pub text_reply : Parameters → List ℕ → LoadReply
text_reply p text = cond (leb (length (lines text)) p.t) (lines_reply p 0 (lines text)) (Refused 8 0)

-- The image of an accepted text: "the others are empty".
unfoldable pub image_of : Parameters → List ℕ → List ℕ
image_of p text = lines_words p (lines text) ++ replicate (4 * (p.t - length (lines text))) 0

-- "6 image slice not 4·T words"
abbrev pub length_check : Parameters → List ℕ → Check
length_check p image = 6 unless (eqb (length image) (4 * p.t))

-- "Load: 1 K, 2 N, 3 S, 4 B, 5 T ..; 6 ..; 7 text over 65,536 bytes"
unfoldable pub load_checks : Parameters → (text old : List ℕ) → List Check
load_checks p text old = parameter_checks p ++ (length_check p old ∷ 7 unless (leb (length text) max_text) ∷ [])

-- The reply: a refusal with index 0 ("0 in all other refusals"), or what the text says.
unfoldable pub load_reply : Parameters → (text old : List ℕ) → LoadReply
load_reply p text old = elim (refusal_of (load_checks p text old)) [ zero ↦ text_reply p text | suc k ↦ Refused (suc k) 0 ]

-- The image slice after load: a refusal "changes no record or buffer".
abbrev pub image_after : Parameters → (text old : List ℕ) → LoadReply → List ℕ
image_after p text old (Accepted n) = image_of p text
image_after p text old (Refused k i) = old

-- The paper's numbers of a reply: the refusal's, 0 if there is none; the count of lines; the faulty line's index.
pub record LoadNumbers : Type 0 where
  pub refusal : ℕ
  pub lines : ℕ
  pub line : ℕ

-- "An accepted load gives 0 and the count of lines." "Every other number that a refused call reports is 0".
unfoldable pub load_numbers : LoadReply → LoadNumbers
load_numbers (Accepted n) = record { refusal = 0; lines = n; line = 0 }
load_numbers (Refused k i) = record { refusal = k; lines = 0; line = i }

-- THE SAME NUMBERS FROM THE CHECKS AND THE TEXT, without the reply: what `load_numbers` makes of load's reply.
-- "the first faulty line": the number of its fault, 0 if no line is faulty
unfoldable pub first_fault : Parameters → List (List ℕ) → ℕ
first_fault p [] = 0
first_fault p (l ∷ ls) = elim (line_of p l) [ fine c ↦ first_fault p ls | fault k ↦ k ]

-- "with its index": the count of the lines before the first faulty one
unfoldable pub right_lines : Parameters → List (List ℕ) → ℕ
right_lines p [] = 0
right_lines p (l ∷ ls) = elim (line_of p l) [ fine c ↦ suc (right_lines p ls) | fault k ↦ 0 ]

-- 1 to 7; "8 more than T lines"
abbrev pub text_checks : Parameters → (text old : List ℕ) → List Check
text_checks p text old = load_checks p text old ++ (8 unless (leb (length (lines text)) p.t) ∷ [])

-- The refusal: 1 to 8, "Then the first faulty line"; 0 if there is none.
unfoldable pub load_refusal : Parameters → (text old : List ℕ) → ℕ
load_refusal p text old = elim (refusal_of (text_checks p text old)) [ zero ↦ first_fault p (lines text) | suc k ↦ suc k ]

-- "An accepted load gives 0 and the count of lines."
unfoldable pub load_lines : Parameters → (text old : List ℕ) → ℕ
load_lines p text old = cond (eqb (load_refusal p text old) 0) (length (lines text)) 0

-- "the first faulty line, with its index (0 in all other refusals)": its numbers are those from 11 on.
unfoldable pub load_line : Parameters → (text old : List ℕ) → ℕ
load_line p text old = cond (leb 11 (load_refusal p text old)) (right_lines p (lines text)) 0

-- The three together.
abbrev pub numbers_of_load : Parameters → (text old : List ℕ) → LoadNumbers
numbers_of_load p text old = record { refusal = load_refusal p text old; lines = load_lines p text old; line = load_line p text old }
