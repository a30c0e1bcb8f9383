use Rattle.std.proofs.Common.{◌*◌, ◌≤◌, length, take}
use Rattle.model.specs.Lines.{value_lines}
use Rattle.session.specs.Puts.{Put}
use Rattle.session.proofs.printing.put_values.Given as goal

abbrev pub invariant-loop-value : goal.invariant-loop-value
invariant-loop-value l =
    (l.value-index ≤ length l.values) × (l.at ≤ l.value-index * 12) × Put l.initial.out (value_lines (take l.value-index l.values)) l.out l.at
