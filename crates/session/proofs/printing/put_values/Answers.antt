-- `put_values` meets its contract. Assumes nothing.
use native.Mathlib.Omega.{arith}
use lib.IntN.{pos}
use lib.ListN.{get_or}
use mir.Facts.{to_z-of_z}
use mir.Syntax.{w32}
use mir.Val.{SFits}
use Rattle.session.proofs.Pieces.{value-line-length, lines_next, put_then}
use Rattle.session.proofs.printing.put_values.Goals as goal

pub loop-value-preserved : goal.loop-value-preserved
loop-value-preserved c =
    let values = c.args.values.now in
    let at = c.loop-value in
    let inside = c.loop-value-test.true in
    let fits : SFits w32 (get_or values at.value-index (pos 0)) = record { sfits = omega arith } in
    let line = rw (to_z-of_z fits) at c.put_value-at.ensures in
    let short = value-line-length (get_or values at.value-index (pos 0)) fits.sfits in
    (omega (arith, inside), omega (arith, at.invariant.1, line.end, short), rw (lines_next values at.value-index inside) (put_then at.invariant.2 line))
