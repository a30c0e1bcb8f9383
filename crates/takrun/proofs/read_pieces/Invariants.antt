-- Each read leaves fewer to follow.
use Rattle.takrun.proofs.read_pieces.Given as goal

abbrev pub decreases-loop-intake : goal.decreases-loop-intake
decreases-loop-intake g l = l.intake.calls
