-- `same_word` meets its contract: words of one length are compared byte by byte. Assumes nothing.
use Rattle.std.proofs.Common.{◌∙◌, sym, rules}
use borrow.Author.Tests.{tests, ne_eqb}
use Rattle.std.proofs.lemmas.Iterator.{YieldsList-from_slice, YieldsList-from_zip}
use Rattle.std.proofs.lemmas.Iterator.Search.{all_from_yields_List}
use Rattle.loader.proofs.NameLaws.{same-byte, same_length, other_length}
use Rattle.loader.proofs.names.same_word.Goals as goal

pub returns-then-w-name : goal.returns-then-w-name
returns-then-w-name c =
    let w = c.args.w.now in
    let n = c.args.name.now in
    all_from_yields_List same-byte c.all.new.self _ c.all.result c.all.ensures.ran (YieldsList-from_zip (YieldsList-from_slice w cc) (YieldsList-from_slice n cc)) (λ x b q k. search (rules, tests))
    ∙ same_length w n c.if-w-name.true

pub returns-else-w-name : goal.returns-else-w-name
returns-else-w-name c = ne_eqb _ _ c.if-w-name.false ∙ sym (other_length _ _ c.if-w-name.false)
