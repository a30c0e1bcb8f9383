-- No call reads back.
use Rattle.std.proofs.Common.{◌≤◌, length}
use Rattle.replay.proofs.calls.Machine.run_calls.Given as goal

abbrev pub invariant-loop : goal.invariant-loop
invariant-loop l = length l.reader.rest.now ≤ length l.fn.reader.rest.now
