-- No number reads back.
use Rattle.std.proofs.Common.{◌≤◌, length}
use Rattle.replay.proofs.reader.Reader.fields.Given as goal

abbrev pub invariant-loop-field : goal.invariant-loop-field
invariant-loop-field l = length l.self.rest.now ≤ length l.fn.self.rest.now
