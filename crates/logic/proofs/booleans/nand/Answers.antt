use mathlib.Core.Bool.{not, ◌&&◌}
use Rattle.logic.proofs.Combined.{combine}
use Rattle.logic.proofs.booleans.nand.Goals as goal

pub returns-clause-value : goal.returns-clause-value
returns-clause-value c = combine c.ranges.x c.ranges.y (λ a b. not (a && b)) c.is_true.ensures c.is_true-2.ensures c.combined.ensures.value
