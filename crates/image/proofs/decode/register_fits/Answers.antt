-- `decode::register_fits` meets its contract. Assumes nothing.
use mathlib.Core.Path.{◌≡◌, ◌∙◌}
use mathlib.Core.Bool.{false}
use native.Mathlib.Omega.{arith}
use borrow.Author.Rules.{rules}
use Rattle.model.specs.Parameters.{between}
use Rattle.model.specs.Words.{iar_number, shr_number}
use Rattle.model.proofs.Fits.{limits}
use Rattle.image.proofs.FitLaws.{register-below, register-behind}
use Rattle.image.proofs.decode.register_fits.Goals as goal

pub returns-then-index-limits : goal.returns-then-index-limits
returns-then-index-limits c =
    let p = c.args.limits.parameters in
    let few = (limits p c.args.limits.fit).n-high in
    c.allows_register.ensures c.args.index ∙ register-below p c.args.form c.args.index few c.if-index-limits.true

pub returns-else-contains : goal.returns-else-contains
returns-else-contains c =
    let p = c.args.limits.parameters in
    let none : between iar_number shr_number c.args.index ≡ false = search rules in
    c.if-contains.false ∙ register-behind p c.args.form c.args.index (omega (arith, c.if-index-limits.false)) none
