-- `natural::digit_count` meets its contract. Assumes nothing.
use mathlib.Core.Path.{◌≡◌, sym}
use native.Mathlib.Omega.{arith}
use Rattle.writer.proofs.Spelling.{digits_counted}
use Rattle.writer.proofs.natural.digit_count.Goals as goal

-- The loop ends at 20.
pub returns : goal.returns
returns c =
    let end : c.loop-count.count ≡ 20 = omega (arith, c.loop-count-test.false) in
    sym (digits_counted 20 c.args.n (omega arith) (omega (arith, rw end at c.loop-count.invariant.0)) (omega arith))
