use native.Mathlib.Omega.{arith}
use lib.IntN.{neg_ℤ}
use mir.Facts.{to_z-of_z}
use mir.Syntax.{w32, w64}
use mir.Val.{SFits}
use Rattle.bounds.proofs.Integers.{mag_neg, zero_minus, zero-minus-fits}
use Rattle.bounds.proofs.LimitLaws.{at_most}
use Rattle.arithmetic.proofs.neg.Goals as goal
use Rattle.arithmetic.proofs.neg.Goals.{Start}

fits : (c : Start) → SFits w32 (neg_ℤ c.args.x)
fits c = record { sfits = omega (arith, mag_neg c.args.x, c.requires.within, at_most c.requires.limit) }

pub overflow_sub-x : goal.overflow_sub-x
overflow_sub-x c = rw (to_z-of_z c.ranges.x) (zero-minus-fits c.args.x (fits c))

pub returns : goal.returns
returns c =
    let e = rw (to_z-of_z c.ranges.x, to_z-of_z (zero-minus-fits c.args.x (fits c.before.before)), zero_minus c.args.x) at c.from.ensures in
    let f : SFits w64 c.from.result = record { sfits = c.from.type_inv } in
    rw (to_z-of_z f, e) at c.checked.ensures
