-- How the code hands back a value or a return code.
use Rattle.std.specs.Prelude.{ℕ, ◌≤◌, ℤ, pos, ◌≡◌, Result, Ok, Err, IfOk, IsOkUnless}
use Rattle.std.specs.Int.Signed.{mag, rem_z}
use Rattle.model.specs.Arithmetic.{Answer, value, code, checked}
use Rattle.bounds.specs.Bounds.{Within}
use Rattle.arithmetic.specs.declared.Division.{Division}
use Rattle.arithmetic.specs.declared.ReturnCode.{ReturnCode}
use Rattle.arithmetic.specs.declared.ReturnCode.TheVariants.{OutOfRange, DivisorZero, NotBoolean}

-- The number of each return code: "code 1 when the exact result is outside", "Divisor 0 gives code 2", 1 where a value is no Boolean.
abbrev pub code_number_of : ReturnCode → ℕ
code_number_of OutOfRange = 1
code_number_of DivisorZero = 2
code_number_of NotBoolean = 1

-- What the code hands back, as the definitions answer it.
abbrev pub answer_of : Result ℤ ReturnCode → Answer
answer_of (Ok z) = value z
answer_of (Err c) = code (code_number_of c)

-- What the code hands back for the exact result z: z in the range, or that it is outside.
pub record IsChecked (m : ℕ) (z : ℤ) (r : Result ℤ ReturnCode) : Type 0 where
  pub value : answer_of r ≡ checked m z
  pub range : IfOk r (Within m)
  pub reason : IsOkUnless r OutOfRange

-- The quotient of what DIVR hands back, or the code.
abbrev pub quotient_of : Result Division ReturnCode → Answer
quotient_of (Ok d) = value d.quotient
quotient_of (Err c) = code (code_number_of c)

-- Its remainder, 0 where there is none.
abbrev pub remainder_of : Result Division ReturnCode → ℤ
remainder_of (Ok d) = d.remainder
remainder_of (Err c) = pos 0

-- The remainder of x by y, which is no larger than x.
pub record HasRemainder (x y : ℤ) (d : Division) : Type 0 where
  pub value : d.remainder ≡ rem_z x y
  pub range : mag d.remainder ≤ mag x
