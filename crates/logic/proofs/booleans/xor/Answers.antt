use mathlib.Core.Bool.{xor}
use Rattle.logic.proofs.Combined.{combine}
use Rattle.logic.proofs.booleans.xor.Goals as goal

pub returns-clause-value : goal.returns-clause-value
unfolding xor
returns-clause-value c = combine c.ranges.x c.ranges.y xor c.is_true.ensures c.is_true-2.ensures c.combined.ensures.value
