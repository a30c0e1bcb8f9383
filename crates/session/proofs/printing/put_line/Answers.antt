-- `put_line` meets its contract. Assumes nothing.
use native.Mathlib.Omega.{arith}
use Rattle.session.proofs.Pieces.{field-length, fields_next, put_then}
use Rattle.session.proofs.printing.put_line.Goals as goal

pub loop-n-preserved : goal.loop-n-preserved
loop-n-preserved c =
    let numbers = c.args.numbers.now in
    let at = c.loop-n in
    let put = c.put_field-at.ensures in
    let short = field-length _ (c.type_inv.numbers at.n-index).fits in
    (omega (arith, at.invariant.0, put.end, short), rw (fields_next c.args.word.now numbers at.n-index c.loop-n-test.true) (put_then at.invariant.1 put))
