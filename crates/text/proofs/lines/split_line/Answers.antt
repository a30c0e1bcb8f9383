-- `lines::split_line` meets its contract. Assumes nothing.
use Rattle.std.proofs.Common.{◌∙◌, [], ◌∷◌, List, ap, sym, rules, take, arith, ℕ}
use borrow.Author.Tests.{tests, eqb-true, eqb-false}
use Rattle.std.proofs.lemmas.List.{take_rest}
use Rattle.model.specs.Load.{lines}
use Rattle.text.specs.Lines.{is_line_feed}
use Rattle.text.proofs.Walks.{empty_line, first_line, no_lines}
use Rattle.text.proofs.lines.split_line.Goals as goal

pub returns-then-is_empty : goal.returns-then-is_empty
returns-then-is_empty c = no_lines c.args.t.now (eqb-true _ _ (sym c.is_empty.ensures ∙ c.if-is_empty.true))

pub returns-then-t-eq10 : goal.returns-then-t-eq10
returns-then-t-eq10 c =
    let t = c.args.t.now in
    let some = eqb-false _ _ (sym c.is_empty.ensures ∙ c.if-is_empty.false) in
    empty_line t (omega arith) c.if-t-eq10.true ∙ ap (λ (s : List ℕ). [] ∷ lines s) (sym (take_rest t 1))

pub returns : goal.returns
returns c =
    let t = c.args.t.now in
    let end = c.find_from-end.ensures.place is_line_feed (λ b x k. search (rules, tests)) ∙ c.skip_blocks.ensures.same in
    let some = eqb-false _ _ (sym c.is_empty.ensures ∙ c.if-is_empty.false) in
    first_line t (omega arith) end c.min.ensures ∙ ap (λ (s : List ℕ). take c.find_from-end.result t ∷ lines s) (sym (take_rest t c.min.result))
