use Prim.Native.Nat.{◌*◌, ◌-◌}
use native.Mathlib.Omega.{arith}
use lib.IntN.{pos}
use mir.Syntax.{w32}
use Rattle.bounds.proofs.Integers.{minus-limit-fits}
use Rattle.bounds.proofs.LimitLaws.{at_most}
use Rattle.bitwise.proofs.bits.signed.Goals as goal

pub overflow_mul-result : goal.overflow_mul-result
overflow_mul-result c = record { fits = omega (arith, at_most c.requires.limit) }

pub overflow_cast-result-else-u-m : goal.overflow_cast-result-else-u-m
overflow_cast-result-else-u-m c = record { sfits = omega (arith, at_most c.requires.limit) }

pub overflow_sub-result-else-u-m : goal.overflow_sub-result-else-u-m
overflow_sub-result-else-u-m c = minus-limit-fits w32 (2 * c.args.m - c.args.u) (pos 0) (omega (arith, at_most c.requires.limit)) (record { sfits = omega arith })
