-- `line::parse_line` meets its contract: no words, an unknown name, or the arguments of a known one. Assumes nothing.
use Rattle.std.proofs.Common.{ℕ, ◌≡◌, [], sym, ap, subst, ◌∙◌, arith, rules, Option, Some, None}
use Rattle.std.specs.Result.{result_ok}
use Rattle.model.specs.Instructions.{row_of}
use Rattle.model.specs.Load.{line_cell, lookup, fault}
use Rattle.image.specs.Decode.{cell_from}
use Rattle.text.specs.Words.{words_left}
use Rattle.loader.specs.Faults.{checked_of}
use Rattle.loader.specs.Keys.{Finds}
use Rattle.loader.specs.Lines.{counted}
use Rattle.model.proofs.Rows.{lookup-number}
use Rattle.loader.proofs.LineLaws.{line_empty, line-unknown, line_known}
use Rattle.loader.proofs.line.parse_line.Goals as goal

pub returns-in_default : goal.returns-in_default
returns-in_default c =
    let p = c.args.limits.parameters in
    sym (ap (line_cell p) (sym c.new-words.ensures ∙ c.in_default.ensures.steps.0) ∙ line_empty p)

pub returns-in_err-number : goal.returns-in_err-number
returns-in_err-number c =
    let p = c.args.limits.parameters in
    let word = c.in-Some.name.now in
    let absent : c.find.result ≡ None = c.ok_or.ensures.ok_part ∙ ap result_ok c.in_err-number.was in
    let none : lookup word ≡ 0 = subst (λ (o : Option ℕ). Finds o (lookup word)) absent c.find.ensures in
    let e : checked_of cell_from c.from_residual.result ≡ fault 11 = search rules in
    e ∙ sym (ap (line_cell p) (sym c.new-words.ensures ∙ c.in-Some.ensures.steps) ∙ line-unknown p word _ none)

pub forms_of-requires : goal.forms_of-requires
forms_of-requires c =
    let word = c.in-Some.name.now in
    let there : c.find.result ≡ Some c.in_ok-number.number = c.ok_or.ensures.ok_part ∙ ap result_ok c.in_ok-number.was in
    let found : Finds (Some c.in_ok-number.number) (lookup word) = subst (λ (o : Option ℕ). Finds o (lookup word)) there c.find.ensures in
    let h = lookup-number word (λ z. absurd (omega (arith, found.1, z))) in
    (omega (arith, found.0, h.0), omega (arith, found.0, h.1))

pub returns : goal.returns
returns c =
    let p = c.args.limits.parameters in
    let word = c.in-Some.name.now in
    let rest = words_left c.next.new.self in
    let there : c.find.result ≡ Some c.in_ok-number.number = c.ok_or.ensures.ok_part ∙ ap result_ok c.in_ok-number.was in
    let found : Finds (Some c.in_ok-number.number) (lookup word) = subst (λ (o : Option ℕ). Finds o (lookup word)) there c.find.ensures in
    c.parse_arguments.ensures
    ∙ ap (λ (n : ℕ). counted p n [] (row_of n).forms rest) found.0
    ∙ sym (ap (line_cell p) (sym c.new-words.ensures ∙ c.in-Some.ensures.steps) ∙ line_known p word rest (λ q. absurd (omega (arith, found.1, q))))
