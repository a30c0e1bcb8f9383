use native.Mathlib.Omega.{arith}
use Rattle.bounds.proofs.LimitLaws.{at_most}
use Rattle.bitwise.proofs.bits.bits.Goals as goal

pub overflow_mul-result : goal.overflow_mul-result
overflow_mul-result c = record { fits = omega (arith, at_most c.requires.limit) }
