use Prim.Native.Nat.{◌<◌, ◌^◌}
use native.Mathlib.Omega.{arith}
use lib.IntN.{pos}
use mir.Facts.{to_z-of_z, to_z_pos}
use Rattle.std.proofs.Common.{rules}
use mir.Syntax.{w32}
use Rattle.bounds.proofs.Integers.{minus-limit-fits, zero_minus}
use Rattle.bounds.proofs.LimitLaws.{at_most}
use Rattle.bounds.proofs.ranges.in_range.Goals as goal

pub overflow_cast-top : goal.overflow_cast-top
overflow_cast-top c = record { sfits = omega (arith, at_most c.requires) }

pub overflow_sub-top : goal.overflow_sub-top
overflow_sub-top c = minus-limit-fits w32 c.args.m c.args.z (omega (arith, at_most c.requires)) c.ranges.z

pub returns : goal.returns
returns c =
    let m = c.args.m in
    let h : m < 2 ^ 31 = omega (arith, at_most c.requires) in
    let e = rw (to_z-of_z (minus-limit-fits w32 m c.args.z h c.ranges.z), to_z-of_z c.ranges.z, to_z_pos w32 {n = m} h, zero_minus (pos m)) at c.contains.ensures.value in
    search (rules, e)
