use native.Mathlib.Omega.{arith}
use lib.Signed.{quot_z}
use mir.Facts.{to_z-of_z}
use mir.Syntax.{w32, w64}
use mir.Val.{SFits}
use Rattle.model.specs.Arithmetic.{divide}
use Rattle.bounds.proofs.Integers.{mag_quot, not-zero}
use Rattle.bounds.proofs.LimitLaws.{at_most}
use Rattle.arithmetic.proofs.div.Goals as goal
use Rattle.arithmetic.proofs.div.Goals.{Else-y-eq0}

fits : (c : Else-y-eq0) → SFits w32 (quot_z c.args.x c.args.y)
fits c = record { sfits = omega (arith, mag_quot c.args.x c.args.y, c.requires.within, at_most c.requires.limit) }

pub nonzero_div-x : goal.nonzero_div-x
nonzero_div-x c = rw (to_z-of_z c.ranges.x, to_z-of_z c.ranges.y) (omega (arith, c.if-y-eq0.false), fits c)

pub returns-clause-value : goal.returns-clause-value
unfolding divide
returns-clause-value c =
    let e = rw (to_z-of_z c.ranges.x, to_z-of_z c.ranges.y, to_z-of_z (fits c.before.before)) at c.from.ensures in
    let f : SFits w64 c.from.result = record { sfits = c.from.type_inv } in
    rw (not-zero c.ranges.y c.if-y-eq0.false) (rw (to_z-of_z f, e) at c.checked.ensures.value)
