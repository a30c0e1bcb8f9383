-- `words::split_word` meets its contract. Assumes nothing.
use Rattle.std.proofs.Common.{◌∙◌, ap, sym, rules, ℕ, List, ◌++◌, length, take, drop}
use borrow.Author.Tests.{tests, eqb-true, eqb-false}
use Rattle.std.proofs.lemmas.List.{take_rest, take-append-drop}
use Rattle.text.proofs.Walks.{no-separator, ends-word, first_word, no_words}
use Rattle.text.proofs.words.split_word.Goals as goal

pub returns-then-is_empty-clause-words : goal.returns-then-is_empty-clause-words
returns-then-is_empty-clause-words c =
    let start = c.find.ensures.place no-separator (λ b x k. search (rules, tests)) in
    let end = c.find-2.ensures.place ends-word (λ b x k. search (rules, tests)) in
    let from_word = take_rest c.args.l.now c.find.result ∙ ap (λ (i : ℕ). drop i c.args.l.now) start in
    no_words c.args.l.now from_word end (ap length (sym c.split_at.ensures.front) ∙ eqb-true _ _ (sym c.is_empty.ensures ∙ c.if-is_empty.true))

pub returns-clause-words : goal.returns-clause-words
returns-clause-words c =
    let start = c.find.ensures.place no-separator (λ b x k. search (rules, tests)) in
    let end = c.find-2.ensures.place ends-word (λ b x k. search (rules, tests)) in
    let from_word = take_rest c.args.l.now c.find.result ∙ ap (λ (i : ℕ). drop i c.args.l.now) start in
    let some = eqb-false _ _ (sym c.is_empty.ensures ∙ c.if-is_empty.false) in
    rw (c.split_at.ensures.front, c.split_at.ensures.back) (first_word c.args.l.now from_word end (λ e. some (ap length c.split_at.ensures.front ∙ e)))

pub returns-clause-place : goal.returns-clause-place
returns-clause-place c =
    let l = c.args.l.now in
    let front = take c.find.result l in
    let behind = take-append-drop c.find-2.result _ ∙ take_rest l c.find.result in
    (front, rw (c.split_at.ensures.front, c.split_at.ensures.back) (sym (ap (λ (xs : List ℕ). front ++ xs) behind ∙ take-append-drop c.find.result l)))
