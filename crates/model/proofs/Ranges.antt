-- What an instruction writes is within -M..M-1. Assumes nothing.
use Prim.Native.Nat.{ℕ, zero, suc, ◌+◌, ◌*◌, ◌/◌, ◌^◌, ◌≤◌, ◌<◌}
use mathlib.Core.Path.{◌≡◌, refl}
use mathlib.Core.Bool.{Bool, true, false, not, cond}
use mathlib.Core.List.{List, [], ◌∷◌}
use native.Mathlib.Nat.{mod-lt}
use native.Mathlib.Omega.{arith}
use lib.Bits.{bit_and, bit_or, bit_xor, and_lt, or_lt, xor_lt}
use lib.Dec.{leb, ltb}
use lib.IntN.{ℤ, pos, negsuc}
use lib.ListN.{get_or, set, replicate}
use lib.Signed.{mag, mag_rem, le_z, lt_z}
use borrow.Author.Tests.{ltb-true, lt-ltb, leb-true, le-leb}
use Rattle.model.specs.Parameters.{in_range, eq_z, boolean_of, limit}
use Rattle.model.specs.Arithmetic.{Answer, value, code, checked, divide, remainder, negation, logic, bits_of, signed_of, inverted, bitwise, shift_left, shift_right, shift_right_signed}
use Rattle.model.specs.Instructions.{Operation, clear_registers, clear_cells, dump_registers, dump_cells, inputs, outputs, pushes, pops, skips, idles, writes, writes_both, jumps, jumps_on, Row, rows, row_of}
use Rattle.model.specs.Calls.{all_in_range}
use Rattle.model.proofs.Fits.{both, and_both, by_cond, limit-low, limit-double}
use Rattle.std.proofs.Common.{rules}

-- A value is in range where its `mag` is below M: n for n, and n for -(n + 1).
pub range-mag : (m : ℕ) (z : ℤ) → 1 ≤ m → in_range m z ≡ true → mag z < m
range-mag zero z l h = absurd (omega arith)
range-mag (suc m) (pos n) l h = ltb-true n (suc m) h
range-mag (suc m) (negsuc n) l h = let k = leb-true n m (both (leb n m) true h).0 in omega arith

pub mag-range : (m : ℕ) (z : ℤ) → 1 ≤ m → mag z < m → in_range m z ≡ true
mag-range zero z l h = absurd (omega arith)
mag-range (suc m) (pos n) l h = lt-ltb n (suc m) h
mag-range (suc m) (negsuc n) l h = and_both (le-leb n m (omega arith)) refl

-- A value in range, or a return code, which is 1 to 3.
abbrev pub Good : ℕ → Answer → Type 0
Good m (value v) = mag v < m
Good m (code k) = (1 ≤ k) × (k ≤ 3)

-- THE CLASSES
module _ (m : ℕ) (one : 1 ≤ m) where
  pub checked-good : (z : ℤ) → Good m (checked m z)
  unfolding checked
  checked-good z = search rules

  pub divide-good : (x y : ℤ) → Good m (divide m x y)
  unfolding divide
  divide-good x y = by_cond (Good m) (eq_z y (pos 0)) (code 2) (checked m _) (λ h. omega arith) (λ h. checked-good _)

  pub remainder-good : (x y : ℤ) → mag x < m → Good m (remainder x y)
  unfolding remainder
  remainder-good x y h = search rules

  pub boolean-mag : (b : Bool) → mag (boolean_of b) < m
  boolean-mag true = one
  boolean-mag false = one

  pub negation-good : (x : ℤ) → Good m (negation x)
  unfolding negation
  negation-good x = search rules

  pub logic-good : (f : Bool → Bool → Bool) (x y : ℤ) → Good m (logic f x y)
  unfolding logic
  logic-good f x y = search rules

  -- K bits, and back.
  pub bits_lt : (z : ℤ) → mag z < m → bits_of m z < 2 * m
  unfolding bits_of
  bits_lt (pos n) h = omega arith
  bits_lt (negsuc n) h = omega arith

  pub signed-mag : (u : ℕ) → u < 2 * m → mag (signed_of m u) < m
  unfolding signed_of
  signed-mag u h = search rules

  pub inverted_lt : (u : ℕ) → inverted m u < 2 * m
  inverted_lt u = omega arith

  -- An operation on bits that makes K bits of K bits.
  pub bitwise-mag : (f : ℕ → ℕ → ℕ) (x y : ℤ) → mag x < m → mag y < m → ((u v : ℕ) → u < 2 * m → v < 2 * m → f u v < 2 * m) →
      mag (bitwise f m x y) < m
  unfolding bitwise
  bitwise-mag f x y h k g = signed-mag _ (g (bits_of m x) (bits_of m y) (bits_lt x h) (bits_lt y k))

  pub shift-left-mag : (x : ℤ) → mag (shift_left m x) < m
  unfolding shift_left
  shift-left-mag x = signed-mag _ (mod-lt (2 * bits_of m x) (omega arith))

  pub shift_right-mag : (x : ℤ) → mag x < m → mag (shift_right m x) < m
  unfolding shift_right
  shift_right-mag x h = let k = bits_lt x h in signed-mag _ (omega arith)

  -- The sign bit comes in.
  pub shift_right_signed-mag : (x : ℤ) → mag x < m → mag (shift_right_signed m x) < m
  unfolding shift_right_signed
  shift_right_signed-mag x h = signed-mag _ (go (bits_of m x) (ltb (bits_of m x) m) (bits_lt x h))
    where
      go : (u : ℕ) (b : Bool) → u < 2 * m → u / 2 + cond b 0 m < 2 * m
      go u true k = omega arith
      go u false k = omega arith

-- THE TABLE. What an operation writes of values in range is in range.
abbrev pub WritesRange : ℕ → Operation → Type 0
WritesRange m clear_registers = Unit {0}
WritesRange m clear_cells = Unit {0}
WritesRange m dump_registers = Unit {0}
WritesRange m dump_cells = Unit {0}
WritesRange m inputs = Unit {0}
WritesRange m outputs = Unit {0}
WritesRange m pushes = Unit {0}
WritesRange m pops = Unit {0}
WritesRange m skips = Unit {0}
WritesRange m idles = Unit {0}
WritesRange m (writes to f) = (x y : ℤ) → mag x < m → mag y < m → Good m (f m x y)
WritesRange m (writes_both f g) = (x y : ℤ) → mag x < m → mag y < m → Good m (f m x y) × (mag (g x y) < m)
WritesRange m (jumps test) = Unit {0}
WritesRange m (jumps_on b) = Unit {0}

abbrev pub AllRows : (Row → Type 0) → List Row → Type 0
AllRows P [] = Unit {0}
AllRows P (r ∷ rs) = P r × AllRows P rs

pub all-rows : (P : Row → Type 0) (rs : List Row) (n : ℕ) (d : Row) → AllRows P rs → P d → P (get_or rs n d)
all-rows P [] n d h k = k
all-rows P (r ∷ rs) zero d h k = h.0
all-rows P (r ∷ rs) (suc n) d h k = all-rows P rs n d h.1 k

infixr 20 ◌then◌
abbrev ◌then◌ : {A B : Type 0} → A → B → A × B
a then b = (a, b)

module _ (k m : ℕ) (one : 1 ≤ m) (two : 2 * m ≡ 2 ^ k) where
  -- Bits of K bits are K bits.
  pub and-bits : (u v : ℕ) → u < 2 * m → v < 2 * m → bit_and u v < 2 * m
  and-bits u v h l = rw two (and_lt k u v (rw two at h) (rw two at l))

  pub or-bits : (u v : ℕ) → u < 2 * m → v < 2 * m → bit_or u v < 2 * m
  or-bits u v h l = rw two (or_lt k u v (rw two at h) (rw two at l))

  pub xor-bits : (u v : ℕ) → u < 2 * m → v < 2 * m → bit_xor u v < 2 * m
  xor-bits u v h l = rw two (xor_lt k u v (rw two at h) (rw two at l))

  pub rows-range : AllRows (λ r. WritesRange m r.operation) rows
  rows-range =
      -- CLEAR_REG, CLEAR_DATA_MEM, DUMP_REG, DUMP_DATA_MEM, IN, OUT
      tt then tt then tt then tt then tt then tt
      -- MOV, SET, PUSH, POP, SETT, SETF
      then (λ x y h l. h) then (λ x y h l. l) then tt then tt then (λ x y h l. one) then (λ x y h l. one)
      -- NOT, AND, OR, XOR, NAND, NOR
      then (λ x y h l. negation-good m one x)
      then (λ x y h l. logic-good m one _ x y)
      then (λ x y h l. logic-good m one _ x y)
      then (λ x y h l. logic-good m one _ x y)
      then (λ x y h l. logic-good m one _ x y)
      then (λ x y h l. logic-good m one _ x y)
      -- NEG, ABS, ADD, SUB, MUL, DIV, MOD, INC, DEC
      then (λ x y h l. checked-good m one _)
      then (λ x y h l. checked-good m one _)
      then (λ x y h l. checked-good m one _)
      then (λ x y h l. checked-good m one _)
      then (λ x y h l. checked-good m one _)
      then (λ x y h l. divide-good m one x y)
      then (λ x y h l. remainder-good m one x y h)
      then (λ x y h l. checked-good m one _)
      then (λ x y h l. checked-good m one _)
      -- CMPEQ, CMPNEQ, CMPLT, CMPGT, CMPLE, CMPGE
      then (λ x y h l. boolean-mag m one (eq_z x y))
      then (λ x y h l. boolean-mag m one (not (eq_z x y)))
      then (λ x y h l. boolean-mag m one (lt_z x y))
      then (λ x y h l. boolean-mag m one (lt_z y x))
      then (λ x y h l. boolean-mag m one (le_z x y))
      then (λ x y h l. boolean-mag m one (le_z y x))
      -- JMP to JMPGE, SKIP, NOP
      then tt then tt then tt then tt then tt then tt then tt then tt then tt then tt then tt
      -- RNOT, RAND, ROR, RXOR, RNAND, RNOR
      then (λ x y h l. signed-mag m one _ (inverted_lt m one (bits_of m x)))
      then (λ x y h l. bitwise-mag m one bit_and x y h l and-bits)
      then (λ x y h l. bitwise-mag m one bit_or x y h l or-bits)
      then (λ x y h l. bitwise-mag m one bit_xor x y h l xor-bits)
      then (λ x y h l. bitwise-mag m one _ x y h l (λ u v a b. inverted_lt m one (bit_and u v)))
      then (λ x y h l. bitwise-mag m one _ x y h l (λ u v a b. inverted_lt m one (bit_or u v)))
      -- RSL, ASL, RSR, ASR
      then (λ x y h l. shift-left-mag m one x)
      then (λ x y h l. shift-left-mag m one x)
      then (λ x y h l. shift_right-mag m one x h)
      then (λ x y h l. shift_right_signed-mag m one x h)
      -- DIVR
      then (λ x y h l. (divide-good m one x y, omega (arith, mag_rem x y)))
      then tt

pub row-range : (k n : ℕ) → 8 ≤ k → WritesRange (limit k) (row_of n).operation
unfolding row_of
row-range k zero h = tt
row-range k (suc n) h =
    all-rows (λ r. WritesRange (limit k) r.operation) rows n _
    (rows-range k (limit k) (omega (arith, limit-low h)) (limit-double (omega arith))) tt

-- LISTS OF VALUES
pub get_d-range : (m : ℕ) (zs : List ℤ) (i : ℕ) → 1 ≤ m → all_in_range m zs ≡ true → mag (get_or zs i (pos 0)) < m
get_d-range m [] i one h = one
get_d-range m (z ∷ zs) zero one h = range-mag m z one (both (in_range m z) (all_in_range m zs) h).0
get_d-range m (z ∷ zs) (suc i) one h = get_d-range m zs i one (both (in_range m z) (all_in_range m zs) h).1

pub set-range : (m : ℕ) (zs : List ℤ) (i : ℕ) (v : ℤ) → in_range m v ≡ true → all_in_range m zs ≡ true → all_in_range m (set zs i v) ≡ true
set-range m [] i v g h = refl
set-range m (z ∷ zs) zero v g h = and_both g (both (in_range m z) (all_in_range m zs) h).1
set-range m (z ∷ zs) (suc i) v g h = let k = both (in_range m z) (all_in_range m zs) h in and_both k.0 (set-range m zs i v g k.1)

pub replicate-range : (m n : ℕ) → 1 ≤ m → all_in_range m (replicate n (pos 0)) ≡ true
replicate-range m zero one = refl
replicate-range m (suc n) one = and_both (mag-range m (pos 0) one one) (replicate-range m n one)
