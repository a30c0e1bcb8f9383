-- `record_fits` meets its contract: the numbers, and the memory. Assumes nothing.
use mathlib.Core.Path.{sym, ◌∙◌}
use Rattle.model.proofs.Fits.{limits}
use Rattle.model.specs.Calls.{as_held}
use Rattle.machine.proofs.RecordLaws.{by-numbers, by-memory}
use Rattle.machine.proofs.checks.record_fits.Goals as goal

pub limit_of-m-requires : goal.limit_of-m-requires
limit_of-m-requires c =
    let l = limits c.args.rec.parameters c.requires in
    (l.k-low, l.k-high)

pub returns-then-fields_fit : goal.returns-then-fields_fit
returns-then-fields_fit c =
    let a = c.args in
    λ image. c.memory_in_range.ensures ∙ by-memory image a.input.now (as_held a.rec a.registers.now a.cells.now) (sym c.fields_fit.ensures ∙ c.if-fields_fit.true) c.limit_of-m.result c.limit_of-m.ensures.value

pub returns-else-fields_fit : goal.returns-else-fields_fit
returns-else-fields_fit c =
    let a = c.args in
    λ image. c.if-fields_fit.false ∙ by-numbers image a.input.now (as_held a.rec a.registers.now a.cells.now) (sym c.fields_fit.ensures ∙ c.if-fields_fit.false)
