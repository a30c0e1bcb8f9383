-- `check::all_zero` meets its contract. Assumes nothing.
use Rattle.std.proofs.Common.{rules, eqb}
use borrow.Author.Tests.{tests}
use mathlib.Core.Path.{◌∙◌}
use Rattle.std.proofs.lemmas.Iterator.{YieldsList-from_slice}
use Rattle.std.proofs.lemmas.Iterator.Search.{all_from_yields_List}
use Rattle.image.proofs.ImageLaws.{zeros}
use Rattle.image.proofs.check.all_zero.Goals as goal

pub returns : goal.returns
returns c =
    all_from_yields_List (λ w. eqb w 0) _ _ _ c.all.ensures.ran (YieldsList-from_slice c.args.words.now cc) (λ x b q k. search (rules, tests)) ∙ zeros c.args.words.now
