-- `read_operand` meets its contract. Assumes nothing.
use Rattle.bounds.proofs.LimitLaws.{one, at_most}
use Rattle.replay.proofs.vectors.read_operand.Goals as goal

pub read_number-requires : goal.read_number-requires
read_number-requires c = (one c.requires, at_most c.requires)
