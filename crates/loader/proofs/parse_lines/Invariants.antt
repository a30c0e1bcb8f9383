use Prim.Native.Nat.{◌*◌}
use mathlib.Core.Path.{◌≡◌}
use lib.ListN.{length}
use Rattle.text.specs.Lines.{lines_left}
use Rattle.loader.proofs.TextLaws.{LinesInvariant}
use Rattle.loader.proofs.parse_lines.Given as goal

abbrev pub invariant-loop-line : goal.invariant-loop-line
invariant-loop-line l =
    (goal.iterator-loop-line).can_next l.line-iterator
    × (goal.iterator-loop-line).is_finite l.line-iterator
    × (length l.image ≡ 4 * l.limits.parameters.t)
    × LinesInvariant l.write l.limits.parameters l.text l.initial.image l.image (lines_left l.line-iterator) l.i
