-- `decode::cell_fits` meets its contract. Assumes nothing.
use mathlib.Core.Bool.{not}
use mathlib.Core.Path.{sym, ap, ◌∙◌}
use native.Mathlib.Omega.{arith}
use Rattle.image.specs.Decode.{cell_from}
use Rattle.image.proofs.FitLaws.{cell-between}
use Rattle.image.proofs.decode.cell_fits.Goals as goal

pub returns-then-arguments_fit : goal.returns-then-arguments_fit
returns-then-arguments_fit c =
    let a = c.args in
    let e = rw c.forms_of.ensures at c.arguments_fit.ensures in
    ap not c.one_target.ensures ∙ cell-between a.limits.parameters (cell_from a.i) (omega arith) (omega arith) (sym c.if-arguments_fit.true ∙ e)

pub returns-else-arguments_fit : goal.returns-else-arguments_fit
returns-else-arguments_fit c =
    let a = c.args in
    let e = rw c.forms_of.ensures at c.arguments_fit.ensures in
    c.if-arguments_fit.false ∙ cell-between a.limits.parameters (cell_from a.i) (omega arith) (omega arith) (sym c.if-arguments_fit.false ∙ e)
