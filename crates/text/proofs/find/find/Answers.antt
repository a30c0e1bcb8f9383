-- `find::find` meets its contract. Assumes nothing.
use Rattle.std.proofs.Common.{◌≡◌, ◌∙◌, ap, rules, ℕ, Option, List}
use borrow.Author.Tests.{tests}
use lib.ListN.{length}
use Rattle.std.specs.List.{position}
use Rattle.std.specs.Option.{unwrap_or}
use Rattle.std.proofs.lemmas.Iterator.{YieldsList-from_slice}
use Rattle.std.proofs.lemmas.Iterator.Search.{position_from_yields_List}
use Rattle.text.proofs.Places.{place-found}
use Rattle.text.proofs.find.find.Goals as goal

pub returns-clause-place : goal.returns-clause-place
returns-clause-place g c test h =
    let t : List ℕ = c.args.t.now in
    let found : c.position.result ≡ position test t = position_from_yields_List test _ _ c.position.result c.position.ensures.ran (YieldsList-from_slice t cc) (λ x b q k. search (rules, tests)) in
    c.unwrap_or.ensures ∙ ap (λ (o : Option ℕ). unwrap_or o (length t)) found ∙ place-found test t
