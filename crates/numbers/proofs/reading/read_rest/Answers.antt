-- `reading::read_rest` meets its contract: a value of 2^30 or more stays one. Assumes nothing.
use Rattle.std.proofs.Common.{◌≡◌, sym, ap, ◌∙◌, ◌^◌, Some, None, rules}
use borrow.Author.Tests.{tests}
use mathlib.Core.Bool.{cond}
use Rattle.std.proofs.lemmas.Iterator.{YieldsList-from_slice}
use Rattle.std.proofs.lemmas.Iterator.Search.{all_from_yields_List}
use Rattle.std.specs.List.{list_all}
use Rattle.model.specs.Numbers.{is_digit}
use Rattle.numbers.proofs.ReadingLaws.{rest-digits}
use Rattle.numbers.proofs.reading.read_rest.Goals as goal

pub returns-then-all : goal.returns-then-all
returns-then-all c e h =
    let d : c.all.result ≡ list_all is_digit c.args.w.now = all_from_yields_List is_digit _ _ _ c.all.ensures.ran (YieldsList-from_slice c.args.w.now cc) (λ x b q k. search (rules, tests)) in
    ap (λ b. cond b (Some (2 ^ 30)) None) (sym c.if-all.true ∙ d) ∙ rest-digits _ e h

pub returns-else-all : goal.returns-else-all
returns-else-all c e h =
    let d : c.all.result ≡ list_all is_digit c.args.w.now = all_from_yields_List is_digit _ _ _ c.all.ensures.ran (YieldsList-from_slice c.args.w.now cc) (λ x b q k. search (rules, tests)) in
    ap (λ b. cond b (Some (2 ^ 30)) None) (sym c.if-all.false ∙ d) ∙ rest-digits _ e h
