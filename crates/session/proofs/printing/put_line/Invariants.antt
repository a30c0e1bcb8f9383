use Rattle.std.proofs.Common.{◌+◌, ◌*◌, ◌≤◌, ◌++◌, length, take}
use Rattle.std.specs.List.{flat_map}
use Rattle.model.specs.Lines.{field}
use Rattle.session.specs.Puts.{Put}
use Rattle.session.proofs.printing.put_line.Given as goal

abbrev pub invariant-loop-n : goal.invariant-loop-n
invariant-loop-n l =
    (l.at ≤ length l.word + 21 * l.n-index) × Put l.fn.out (l.word ++ flat_map field (take l.n-index l.numbers)) l.out l.at
