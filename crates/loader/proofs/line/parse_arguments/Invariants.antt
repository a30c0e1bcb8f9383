use mathlib.Core.Path.{◌≡◌}
use lib.ListN.{length}
use Rattle.text.specs.Words.{words_left}
use Rattle.loader.proofs.LineLaws.{ArgumentsInvariant}
use Rattle.loader.proofs.line.parse_arguments.Given as goal

abbrev pub invariant-loop-argument : goal.invariant-loop-argument
invariant-loop-argument l =
    (length l.argument-items ≡ 3) × ArgumentsInvariant l.limits.parameters l.number (words_left l.fn.words) l.argument-items l.argument-index l.rest (words_left l.words)
