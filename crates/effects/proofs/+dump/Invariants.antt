use Rattle.std.proofs.Common.{length}
use Rattle.effects.proofs.+dump.Given as goal

abbrev pub decreases-dump : goal.decreases-dump
decreases-dump l = length l.values.now
