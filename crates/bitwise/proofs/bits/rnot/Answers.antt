use Rattle.bitwise.proofs.BitLaws.{inverted-word}
use Rattle.bitwise.proofs.bits.rnot.Goals as goal

pub returns-clause-by_index : goal.returns-clause-by_index
returns-clause-by_index c m h = inverted-word m c.args.x c.ranges.x h
