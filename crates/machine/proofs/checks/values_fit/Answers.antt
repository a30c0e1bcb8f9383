-- `values_fit` meets its contract. Assumes nothing.
use Rattle.std.proofs.Common.{◌∙◌, rules, true}
use borrow.Author.Tests.{tests}
use Rattle.std.proofs.lemmas.Iterator.{YieldsList-from_slice}
use Rattle.std.proofs.lemmas.Iterator.Consumers.{fold_from_yields_List}
use mathlib.Core.Bool.{Bool, ◌&&◌}
use lib.IntN.{ℤ}
use Rattle.model.specs.Parameters.{in_range}
use Rattle.machine.proofs.RecordLaws.{fold-range}
use Rattle.machine.proofs.checks.values_fit.Goals as goal

pub returns : goal.returns
returns c =
    fold_from_yields_List _ (λ (x : Bool) (z : ℤ). x && in_range c.args.m z) true c.fold.result c.fold.ensures.ran (YieldsList-from_slice c.args.values.now cc) (λ a x b q k. search (rules, tests))
    ∙ fold-range c.args.m c.args.values.now true
