use Rattle.std.proofs.Common.{◌≡◌, length, drop, []}
use Rattle.writer.proofs.Spelling.{last_digits}
use Rattle.writer.proofs.natural.write_digits.Given as goal

abbrev pub invariant-loop-at : goal.invariant-loop-at
invariant-loop-at l = last_digits (length l.initial.out) l.n [] ≡ last_digits l.at l.left (drop l.at l.out)
