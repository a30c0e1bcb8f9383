use Prim.Native.Nat.{◌-◌, ◌≤◌}
use Rattle.model.specs.Step.{as_memory}
use Rattle.engine.specs.Programs.{environment_in}
use Rattle.engine.proofs.RunLaws.{RunInvariant}
use Rattle.engine.proofs.run.Given as goal

abbrev pub invariant-loop-ending : goal.invariant-loop-ending
invariant-loop-ending l =
    (l.allowance ≤ l.granted)
    × RunInvariant (environment_in l.program) l.initial.at l.initial.peak l.before l.granted (as_memory l.initial.registers l.initial.cells) l.initial.out l.at l.peak (l.granted - l.allowance) l.count (as_memory l.registers l.cells) l.out

abbrev pub decreases-loop-ending : goal.decreases-loop-ending
decreases-loop-ending l =
    l.allowance
