-- `argument_word` meets its contract, by the first letter and the special registers' names. Assumes nothing.
use Rattle.std.proofs.Common.{List, ℕ, ◌≡◌, sym, ap, ◌∙◌, arith, Some, subst, Option, ◌<◌, false, eqb}
use borrow.Author.Tests.{eqb-true, eqb-false}
use Rattle.std.proofs.lemmas.List.{take_rest}
use Rattle.model.specs.Numbers.{mapped, natural}
use Rattle.model.specs.Words.{word_of, register_kind, register}
use Rattle.model.specs.Load.{special_of, checked_argument, fine}
use Rattle.loader.specs.Keys.{Finds}
use Rattle.loader.proofs.ArgumentLaws.{special-high, argument-none, argument_special, argument_register, argument_direct, argument-number, special-checked}
use Rattle.loader.proofs.arguments.argument_word.Goals as goal

some-byte : (n : ℕ) → eqb n 0 ≡ false → 0 < n
some-byte n e = let d = eqb-false n 0 e in omega arith

pub returns-then-is_empty : goal.returns-then-is_empty
returns-then-is_empty c =
    let a = c.args in
    sym (ap (checked_argument a.limits.parameters a.form) (argument-none a.w.now (eqb-true _ _ (sym c.is_empty.ensures ∙ c.if-is_empty.true))))

pub returns-in-82 : goal.returns-in-82
returns-in-82 c =
    let a = c.args in
    c.register_word.ensures
    ∙ ap (λ (s : List ℕ). checked_argument a.limits.parameters a.form (mapped register (natural s))) (take_rest a.w.now 1)
    ∙ sym (ap (checked_argument a.limits.parameters a.form) (argument_register a.w.now (some-byte _ (sym c.is_empty.ensures ∙ c.if-is_empty.false)) (sym c.upper.ensures ∙ c.in-82.is)))

pub returns-in-68 : goal.returns-in-68
returns-in-68 c =
    let a = c.args in
    c.direct_word.ensures
    ∙ sym (ap (checked_argument a.limits.parameters a.form) (argument_direct a.w.now (some-byte _ (sym c.is_empty.ensures ∙ c.if-is_empty.false)) (sym c.upper.ensures ∙ c.in-68.is)))

pub overflow_add-result : goal.overflow_add-result
overflow_add-result c =
    let found : Finds (Some c.in-Some.r) (special_of c.args.w.now) = subst (λ (o : Option ℕ). Finds o (special_of c.args.w.now)) c.in-Some.is c.special.ensures in
    let h = special-high c.args.w.now in
    omega (arith, found.0)

pub returns-in-None : goal.returns-in-None
returns-in-None c =
    let w = c.args.w.now in
    let none : special_of w ≡ 0 = subst (λ (o : Option ℕ). Finds o (special_of w)) c.in-None.is c.special.ensures in
    let u = c.upper.ensures in
    let plain = argument-number w (some-byte _ (sym c.is_empty.ensures ∙ c.if-is_empty.false)) (λ q. absurd (omega (arith, u, q))) (λ q. absurd (omega (arith, u, q))) none in
    c.number_word.ensures ∙ sym (ap (checked_argument c.args.limits.parameters c.args.form) plain)

pub returns-in-Some : goal.returns-in-Some
returns-in-Some c =
    let a = c.args in
    let w = a.w.now in
    let found : Finds (Some c.in-Some.r) (special_of w) = subst (λ (o : Option ℕ). Finds o (special_of w)) c.in-Some.is c.special.ensures in
    ap fine (ap (word_of register_kind) found.0)
    ∙ sym (special-checked a.limits.parameters a.form (special_of w) (sym (c.allows_special.ensures (special_of w)) ∙ c.if-allows_special.true))
    ∙ sym (ap (checked_argument a.limits.parameters a.form) (argument_special w (λ q. absurd (omega (arith, found.1, q)))))

pub returns-in-Some-2 : goal.returns-in-Some-2
returns-in-Some-2 c =
    let a = c.args in
    let w = a.w.now in
    let found : Finds (Some c.in-Some-2.field-0) (special_of w) = subst (λ (o : Option ℕ). Finds o (special_of w)) c.in-Some-2.is c.special.ensures in
    let barred = sym (c.allows_special.ensures (special_of w)) ∙ c.if-allows_special.false in
    sym (ap (checked_argument a.limits.parameters a.form) (argument_special w (λ q. absurd (omega (arith, found.1, q)))) ∙ simp barred)
