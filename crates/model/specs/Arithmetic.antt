-- Document 01, "Instructions": what the operations make of values, with their return codes. m is M.
use Rattle.std.specs.Prelude.{ℕ, suc, ◌+◌, ◌*◌, ◌-◌, ◌/◌, ◌%◌, ◌<◌, ◌≡◌, Bool, not, ◌&&◌, cond, ltb, ℤ, pos, negsuc, nat_abs, ◌+ℤ◌, ◌*ℤ◌}
use Rattle.std.specs.Int.Signed.{quot_z, rem_z, non_neg}
use Rattle.model.specs.Parameters.{in_range, eq_z, boolean_of, is_true, is_boolean}

-- A value, or a return code other than 0.
pub data Answer : Type 0 where
  value : ℤ → Answer
  code : ℕ → Answer

-- "code 1 when the exact result is outside -M..M-1"
unfoldable pub checked : (m : ℕ) → ℤ → Answer
checked m z = cond (in_range m z) (value z) (code 1)

-- "DIV rounds towards zero .. Divisor 0 gives code 2. -M DIV -1 gives code 1".
unfoldable pub divide : (m : ℕ) (x y : ℤ) → Answer
divide m x y = cond (eq_z y (pos 0)) (code 2) (checked m (quot_z x y))

-- "MOD has the sign of the first number. Divisor 0 gives code 2. .. -M MOD -1 is 0."
unfoldable pub remainder : (x y : ℤ) → Answer
remainder x y = cond (eq_z y (pos 0)) (code 2) (value (rem_z x y))

-- What request E3 says of a DIVR with code 0, of x by y: "Quotient times divisor plus remainder is the old ARG1, and the remainder is smaller in size
-- than the divisor, with the sign of that old ARG1, or zero."
pub record Divided (x y quotient remainder : ℤ) : Type 0 where
  pub whole : quotient *ℤ y +ℤ remainder ≡ x
  pub smaller : nat_abs remainder < nat_abs y
  pub sign : ¬ (remainder ≡ pos 0) → non_neg remainder ≡ non_neg x

-- 003: code 1 if "the value of register ARG1 did not represent a Boolean value".
unfoldable pub negation : ℤ → Answer
negation x = cond (is_boolean x) (value (boolean_of (not (is_true x)))) (code 1)

-- 003: code 1 if "register ARG1 or ARG2 did not contain a Boolean value".
unfoldable pub logic : (Bool → Bool → Bool) → (x y : ℤ) → Answer
logic f x y = cond (is_boolean x && is_boolean y) (value (boolean_of (f (is_true x) (is_true y)))) (code 1)

-- "Shifts and bitwise operations act on K bits, read back as signed": the K bits of a value. 2 * m is 2^K.
unfoldable pub bits_of : (m : ℕ) → ℤ → ℕ
bits_of m (pos n) = n
bits_of m (negsuc n) = 2 * m - suc n

-- "read back as signed"
unfoldable pub signed_of : (m u : ℕ) → ℤ
signed_of m u = cond (ltb u m) (pos u) (negsuc (2 * m - suc u))

-- Each of K bits inverted.
abbrev pub inverted : (m u : ℕ) → ℕ
inverted m u = 2 * m - suc u

-- An operation on the bits of two values.
unfoldable pub bitwise : (ℕ → ℕ → ℕ) → (m : ℕ) (x y : ℤ) → ℤ
bitwise f m x y = signed_of m (f (bits_of m x) (bits_of m y))

-- 003: "multiplication by 2, though modulo 2^K"
unfoldable pub shift_left : (m : ℕ) → ℤ → ℤ
shift_left m x = signed_of m (2 * bits_of m x % (2 * m))

-- "RSR brings in 0, ASR the sign bit."
unfoldable pub shift_right : (m : ℕ) → ℤ → ℤ
shift_right m x = signed_of m (bits_of m x / 2)

-- "ASR the sign bit"
unfoldable pub shift_right_signed : (m : ℕ) → ℤ → ℤ
shift_right_signed m x = signed_of m (bits_of m x / 2 + cond (ltb (bits_of m x) m) 0 m)
