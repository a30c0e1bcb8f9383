-- `start` meets its contract. Assumes nothing.
use mathlib.Core.List.{[]}
use Rattle.model.specs.Step.{as_memory, environment_of}
use Rattle.machine.proofs.CallLaws.{start-refuses, start-accepts}
use Rattle.machine.proofs.start.Goals as goal

pub returns-in_err-check_start : goal.returns-in_err-check_start
returns-in_err-check_start c =
    start-refuses (environment_of c.args.p c.args.image.now []) (as_memory c.args.registers.now c.args.cells.now)
    _ _ c.from_residual.ensures c.in_err-check_start.ensures

pub returns : goal.returns
returns c =
    let e = environment_of c.args.p c.args.image.now [] in
    let m = as_memory c.args.registers.now c.args.cells.now in
    rw c.fresh.ensures (start-accepts e m c.in_ok-check_start.ensures (c.fill.ensures.after (λ y q. q)) (c.fill-2.ensures.after (λ y q. q)))
