use Rattle.std.proofs.Common.{length}
use Rattle.replay.proofs.run.Given as goal

abbrev pub decreases-loop-word : goal.decreases-loop-word
decreases-loop-word l = length l.reader.rest.now
