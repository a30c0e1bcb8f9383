-- `lines::has_no_line_feed` meets its contract. Assumes nothing.
use Rattle.std.proofs.Common.{◌∙◌, rules, true}
use borrow.Author.Tests.{tests}
use Rattle.std.proofs.lemmas.Iterator.{YieldsList-from_slice}
use Rattle.std.proofs.lemmas.Iterator.Consumers.{fold_from_yields_List}
use mathlib.Core.Bool.{Bool, ◌&&◌}
use Prim.Native.Nat.{ℕ}
use Rattle.text.proofs.Blocks.{no-feed, fold-all}
use Rattle.text.proofs.lines.has_no_line_feed.Goals as goal

pub returns : goal.returns
returns c =
    fold_from_yields_List _ (λ (x : Bool) (b : ℕ). x && no-feed b) true c.fold.result c.fold.ensures.ran (YieldsList-from_slice c.args.bytes.now cc) (λ a x b q k. search (rules, tests))
    ∙ fold-all no-feed c.args.bytes.now true
