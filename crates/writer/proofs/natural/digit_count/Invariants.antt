use Rattle.std.proofs.Common.{◌≡◌, ◌≤◌, ◌*◌, ◌^◌, max}
use Rattle.writer.proofs.natural.digit_count.Given as goal

abbrev pub invariant-loop-count : goal.invariant-loop-count
invariant-loop-count l = (l.power * 10 ≡ 10 ^ l.count) × (l.power ≤ max 1 l.n)
