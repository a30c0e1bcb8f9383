-- Document 01, "Instructions" and "Costs": the 54 instructions as rows, and DIVR of request E3.
use Rattle.std.specs.Prelude.{ℕ, zero, suc, ◌+◌, ◌*◌, Bool, true, false, not, ◌&&◌, ◌||◌, cond, List, [], ◌∷◌, eqb, ℤ, pos, neg_ℤ, nat_abs, ◌+ℤ◌, ◌-ℤ◌, ◌*ℤ◌, length, get_or}
use Prim.Native.String.{String}
use Rattle.std.specs.Bool.{xor}
use Rattle.std.specs.Int.Bits.{bit_and, bit_or, bit_xor}
use Rattle.std.specs.Int.Signed.{lt_z, le_z, rem_z}
use Rattle.model.specs.declared.Parameters.{Parameters}
use Rattle.model.specs.Parameters.{eq_z, boolean_of}
use Rattle.model.specs.Words.{Cell, kind_of, direct_kind}
use Rattle.model.specs.Numbers.{bytes}
use Rattle.model.specs.Arithmetic.{Answer, value, checked, divide, remainder, negation, logic, bits_of, signed_of, inverted, bitwise, shift_left, shift_right, shift_right_signed}

-- FORMS: what an argument's place allows. 1 register, 2 special register, 4 direct cell, 8 number, or a sum of these.
-- A register that is written.
abbrev target : ℕ
target = 1

-- A register that is read: "Special registers may be read wherever a register is read, never written."
abbrev source : ℕ
source = 3

-- 003's "register/direct", where it is written.
abbrev target_or_cell : ℕ
target_or_cell = 5

-- 003's "register/direct", where it is read.
abbrev source_or_cell : ℕ
source_or_cell = 7

-- 003's "immediate".
abbrev immediate : ℕ
immediate = 8

-- 003's "immediate/register".
abbrev source_or_immediate : ℕ
source_or_immediate = 11

-- The argument that is written.
pub data Position : Type 0 where
  first second third : Position

-- What an instruction does. Functions take M, and the values of the first two arguments; the second of `writes_both` those values alone; those of a jump
-- its second and third.
pub data Operation : Type 0 where
  clear_registers clear_cells dump_registers dump_cells inputs outputs pushes pops skips idles : Operation
  writes : Position → (ℕ → ℤ → ℤ → Answer) → Operation
  -- to ARG3 as `writes third`, and a second value to ARG1
  writes_both : (ℕ → ℤ → ℤ → Answer) → (ℤ → ℤ → ℤ) → Operation
  jumps : (ℤ → ℤ → Bool) → Operation
  jumps_on : Bool → Operation

-- "CLEAR_REG N, CLEAR_DATA_MEM 5·S, DUMP_REG 51·N, DUMP_DATA_MEM 51·S": what a price is multiplied by.
pub data Multiplier : Type 0 where
  one by_registers by_cells : Multiplier

-- A row: the name in capitals, the form of each argument, the prices for no direct argument, one, two.
pub record Row : Type 0 where
  pub name : List ℕ
  pub forms : List ℕ
  pub prices : List ℕ
  pub multiplier : Multiplier
  pub operation : Operation

-- A row whose price is not multiplied.
abbrev row : String → (forms prices : List ℕ) → Operation → Row
row name forms prices operation = record { name = bytes name; forms = forms; prices = prices; multiplier = one; operation = operation }

-- One of the four whose price is, which have no arguments.
abbrev sized : String → ℕ → Multiplier → Operation → Row
sized name price multiplier operation = record { name = bytes name; forms = []; prices = price ∷ []; multiplier = multiplier; operation = operation }

-- ARG1 and ARG2 are read and ARG3 is written.
abbrev binary : String → ℕ → (ℕ → ℤ → ℤ → Answer) → Row
binary name price f = row name (source ∷ source ∷ target ∷ []) (price ∷ []) (writes third f)

-- ARG1 is read and ARG2 is written.
abbrev unary : String → (ℕ → ℤ → Answer) → Row
unary name f = row name (source ∷ target ∷ []) (1 ∷ []) (writes second (λ m x y. f m x))

-- ARG1 alone is read and written.
abbrev shift : String → (ℕ → ℤ → ℤ) → Row
shift name f = row name (target ∷ []) (1 ∷ []) (writes first (λ m x y. value (f m x)))

-- CMP: truth or falsehood.
abbrev compares : String → (ℤ → ℤ → Bool) → Row
compares name f = binary name 3 (λ m x y. value (boolean_of (f x y)))

-- JMP with a comparison.
abbrev compares_jumps : String → ℕ → (ℤ → ℤ → Bool) → Row
compares_jumps name price f = row name (source_or_immediate ∷ source ∷ source ∷ []) (price ∷ []) (jumps f)

-- An operation on the K bits of ARG1 and ARG2.
abbrev bits : String → (ℕ → ℕ → ℕ → ℕ) → Row
bits name f = binary name 2 (λ m x y. value (bitwise (f m) m x y))

-- "NOP's 1 is set here."
abbrev nop : Row
nop = row "NOP" [] (1 ∷ []) idles

-- "Numbers run from 1 in this order"; arguments and codes are document 003's.
abbrev pub rows : List Row
rows =
    sized "CLEAR_REG" 1 by_registers clear_registers
    ∷ sized "CLEAR_DATA_MEM" 5 by_cells clear_cells
    ∷ sized "DUMP_REG" 51 by_registers dump_registers
    ∷ sized "DUMP_DATA_MEM" 51 by_cells dump_cells
    ∷ row "IN" (target_or_cell ∷ []) (51 ∷ 55 ∷ []) inputs
    ∷ row "OUT" (source_or_cell ∷ []) (51 ∷ 55 ∷ []) outputs
    ∷ row "MOV" (source_or_cell ∷ target_or_cell ∷ []) (2 ∷ 6 ∷ 10 ∷ []) (writes second (λ m x y. value x))
    ∷ row "SET" (target_or_cell ∷ immediate ∷ []) (11 ∷ 16 ∷ []) (writes first (λ m x y. value y))
    ∷ row "PUSH" (source_or_cell ∷ []) (8 ∷ 12 ∷ []) pushes
    ∷ row "POP" (target_or_cell ∷ []) (8 ∷ 12 ∷ []) pops
    ∷ row "SETT" (target ∷ []) (1 ∷ []) (writes first (λ m x y. value (boolean_of true)))
    ∷ row "SETF" (target ∷ []) (1 ∷ []) (writes first (λ m x y. value (boolean_of false)))
    ∷ unary "NOT" (λ m x. negation x)
    ∷ binary "AND" 2 (λ m. logic ◌&&◌)
    ∷ binary "OR" 2 (λ m. logic ◌||◌)
    ∷ binary "XOR" 2 (λ m. logic xor)
    ∷ binary "NAND" 2 (λ m. logic (λ a b. not (a && b)))
    ∷ binary "NOR" 2 (λ m. logic (λ a b. not (a || b)))
    ∷ unary "NEG" (λ m x. checked m (neg_ℤ x))
    ∷ unary "ABS" (λ m x. checked m (pos (nat_abs x)))
    ∷ binary "ADD" 4 (λ m x y. checked m (x +ℤ y))
    ∷ binary "SUB" 4 (λ m x y. checked m (x -ℤ y))
    ∷ binary "MUL" 10 (λ m x y. checked m (x *ℤ y))
    ∷ binary "DIV" 30 divide
    ∷ binary "MOD" 30 (λ m. remainder)
    ∷ row "INC" (target ∷ immediate ∷ []) (14 ∷ []) (writes first (λ m x y. checked m (x +ℤ y)))
    ∷ row "DEC" (target ∷ immediate ∷ []) (14 ∷ []) (writes first (λ m x y. checked m (x -ℤ y)))
    ∷ compares "CMPEQ" eq_z
    ∷ compares "CMPNEQ" (λ x y. not (eq_z x y))
    ∷ compares "CMPLT" lt_z
    ∷ compares "CMPGT" (λ x y. lt_z y x)
    ∷ compares "CMPLE" le_z
    ∷ compares "CMPGE" (λ x y. le_z y x)
    ∷ row "JMP" (source_or_immediate ∷ []) (4 ∷ []) (jumps (λ y z. true))
    ∷ row "JMPT" (source_or_immediate ∷ source ∷ []) (6 ∷ []) (jumps_on true)
    ∷ row "JMPF" (source_or_immediate ∷ source ∷ []) (6 ∷ []) (jumps_on false)
    ∷ compares_jumps "JMPEQ" 6 eq_z
    ∷ compares_jumps "JMPNEQ" 6 (λ y z. not (eq_z y z))
    ∷ compares_jumps "JMPLT" 7 lt_z
    ∷ compares_jumps "JMPGT" 7 (λ y z. lt_z z y)
    ∷ compares_jumps "JMPLE" 9 le_z
    ∷ compares_jumps "JMPGE" 9 (λ y z. le_z z y)
    ∷ row "SKIP" [] (4 ∷ []) skips
    ∷ nop
    ∷ unary "RNOT" (λ m x. value (signed_of m (inverted m (bits_of m x))))
    ∷ bits "RAND" (λ m. bit_and)
    ∷ bits "ROR" (λ m. bit_or)
    ∷ bits "RXOR" (λ m. bit_xor)
    ∷ bits "RNAND" (λ m u v. inverted m (bit_and u v))
    ∷ bits "RNOR" (λ m u v. inverted m (bit_or u v))
    ∷ shift "RSL" shift_left
    ∷ shift "ASL" shift_left
    ∷ shift "RSR" shift_right
    ∷ shift "ASR" shift_right_signed
    -- Request E3: "DIVR, number 55, cost 31, reads ARG1 and ARG2, writes the quotient to ARG3 and the remainder to ARG1. .. Codes are those of DIV."
    ∷ row "DIVR" (target ∷ source ∷ target ∷ []) (31 ∷ []) (writes_both divide rem_z)
    ∷ []

-- "Numbers run from 1 .. (54)"; 55 with DIVR.
abbrev pub instruction_count : ℕ
instruction_count = length rows

-- The number of NOP, which a line without words is.
abbrev pub nop_number : ℕ
nop_number = 44

-- The number of DIVR.
abbrev pub divr_number : ℕ
divr_number = 55

-- The row of an instruction's number. A head that is none, which no fit image has, gets NOP's.
unfoldable pub row_of : ℕ → Row
row_of zero = nop
row_of (suc n) = get_or rows n nop

-- 1 for a direct argument.
abbrev pub is_direct : ℕ → ℕ
is_direct w = cond (eqb (kind_of w) direct_kind) 1 0

-- The addressing mode: the count of direct arguments.
unfoldable pub directs : Cell → ℕ
directs c = is_direct c.first + is_direct c.second + is_direct c.third

-- N, S or 1.
abbrev pub times : Parameters → Multiplier → ℕ
times p one = 1
times p by_registers = p.n
times p by_cells = p.s

-- The cost: the price by the addressing mode, times N or S. "A failing step costs the same."
unfoldable pub cost_of : Parameters → Cell → ℕ
cost_of p c = get_or (row_of c.head).prices (directs c) 1 * times p (row_of c.head).multiplier
