-- `tokens::next_token` meets its contract. Assumes nothing.
use Rattle.std.proofs.Common.{◌≡◌, ◌∙◌, sym, rules}
use borrow.Author.Tests.{tests}
use lib.ListN.{drop}
use Rattle.std.specs.List.{position}
use Rattle.std.proofs.lemmas.List.{take_rest}
use Rattle.std.proofs.lemmas.Iterator.{YieldsList-from_slice}
use Rattle.std.proofs.lemmas.Iterator.Search.{position_from_yields_List}
use Rattle.model.specs.Numbers.{is_blank}
use Rattle.text.proofs.Walks.{no-blank, only-blanks, token-found}
use Rattle.text.proofs.tokens.next_token.Goals as goal

pub returns-in_err-blanks : goal.returns-in_err-blanks
returns-in_err-blanks c =
    let rest = drop c.args.p c.args.t.now in
    let found : c.position.result ≡ position no-blank rest = position_from_yields_List no-blank _ _ c.position.result c.position.ensures.ran (YieldsList-from_slice rest (c.iter.ensures.rest ∙ take_rest c.args.t.now c.args.p)) (λ x b q k. search (rules, tests)) in
    rw c.from_residual.ensures (only-blanks rest (sym found ∙ c.in_err-blanks.was))

pub returns : goal.returns
returns c =
    let rest = drop c.args.p c.args.t.now in
    let found : c.position.result ≡ position no-blank rest = position_from_yields_List no-blank _ _ c.position.result c.position.ensures.ran (YieldsList-from_slice rest (c.iter.ensures.rest ∙ take_rest c.args.t.now c.args.p)) (λ x b q k. search (rules, tests)) in
    token-found _ _ _ _ (sym found ∙ c.in_ok-blanks.was) (c.find_from-end.ensures.place is_blank (λ b x k. search (rules, tests))) c.find_from-end.ensures.bound
