-- `find_word` meets its contract. Assumes nothing.
use Rattle.std.proofs.Common.{rules, List, ℕ, ◌≡◌, ap, ◌∙◌, sym, ◌+◌}
use borrow.Author.Tests.{tests}
use denote.Ref.{Bor}
use Rattle.std.specs.List.{position}
use Rattle.std.specs.Option.{option_map}
use Rattle.std.proofs.lemmas.Iterator.{YieldsList-from_slice}
use Rattle.std.proofs.lemmas.Iterator.Search.{position_from_yields_List}
use Rattle.model.specs.Load.{same_word}
use Rattle.loader.proofs.names.find_word.Goals as goal

pub returns-in_err-i : goal.returns-in_err-i
returns-in_err-i c =
    let w : List ℕ = c.args.w.now in
    let found : c.position.result ≡ position (λ (n : Bor (List ℕ)). same_word w n.now) c.args.names.now = position_from_yields_List (λ (n : Bor (List ℕ)). same_word w n.now) _ _ c.position.result c.position.ensures.ran (YieldsList-from_slice c.args.names.now cc) (λ x b q k. search (rules, tests)) in
    c.from_residual.ensures ∙ ap (option_map (λ (i : ℕ). c.args.first + i)) (sym c.in_err-i.was ∙ found)

pub returns : goal.returns
returns c =
    let w : List ℕ = c.args.w.now in
    let found : c.position.result ≡ position (λ (n : Bor (List ℕ)). same_word w n.now) c.args.names.now = position_from_yields_List (λ (n : Bor (List ℕ)). same_word w n.now) _ _ c.position.result c.position.ensures.ran (YieldsList-from_slice c.args.names.now cc) (λ x b q k. search (rules, tests)) in
    ap (option_map (λ (i : ℕ). c.args.first + i)) (sym c.in_ok-i.was ∙ found)
