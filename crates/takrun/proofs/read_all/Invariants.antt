-- Each call leaves fewer to follow.
use Rattle.std.proofs.Common.{◌≡◌, ◌≤◌, length}
use Rattle.takrun.proofs.read_all.Given as goal

abbrev pub invariant-loop-t : goal.invariant-loop-t
invariant-loop-t g l = (l.t.count ≤ l.t.length) × (l.t.length ≡ length l.bytes)

abbrev pub decreases-loop-t : goal.decreases-loop-t
decreases-loop-t g l = l.t.calls
