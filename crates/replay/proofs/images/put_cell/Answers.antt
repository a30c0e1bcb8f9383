-- `put_cell` is safe. Assumes nothing.
use Rattle.replay.proofs.CellLaws.{runs_fit}
use Rattle.replay.proofs.images.put_cell.Goals as goal

pub cost-requires : goal.cost-requires
cost-requires c = runs_fit c.args.limits.parameters _ c.decode.ensures c.in-Runs.is
