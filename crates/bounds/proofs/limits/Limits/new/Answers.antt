use Rattle.model.proofs.Fits.{limits}
use Rattle.bounds.proofs.limits.Limits.new.Goals as goal

pub limit_of-requires : goal.limit_of-requires
limit_of-requires c = let l = limits c.args.parameters c.requires in (l.k-low, l.k-high)
