-- After each full output more is spent, and never more than granted.
use Rattle.takrun.proofs.Ends.{left}
use Rattle.takrun.proofs.run_grants.Given as goal

abbrev pub decreases-loop-next : goal.decreases-loop-next
decreases-loop-next g l = left l.report
