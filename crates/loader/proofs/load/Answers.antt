-- `load` meets its contract, check by check. Assumes nothing.
use mathlib.Core.Path.{◌≡◌, sym, ap, ◌∙◌}
use native.Mathlib.Omega.{arith}
use Rattle.std.proofs.Common.{rules}
use Rattle.model.specs.declared.LoadError.{LoadError}
use Rattle.model.specs.declared.Refusal.TheVariants.{TextLength}
use Rattle.model.specs.declared.Parameters.{Parameters}
use Rattle.model.specs.Load.{Refused, text_reply}
use Rattle.model.specs.Parameters.{Fit}
use Rattle.model.specs.Replies.{refusal_number_of, refusal_number, load_answer}
use Rattle.loader.proofs.LoadLaws.{numbered, has-number, by-parameters, by_length, by-text, by_lines}
use Rattle.loader.proofs.load.Goals as goal

-- The parameters are refused.
pub returns-in_err-check_parameters-clause-value : goal.returns-in_err-check_parameters-clause-value
returns-in_err-check_parameters-clause-value c =
    let a = c.args in
    let r = c.in_err-check_parameters.field-0.0 in
    let refused : load_answer c.from_residual.result ≡ Refused (refusal_number_of r) 0 = search rules in
    let number = sym (ap refusal_number c.in_err-check_parameters.was) ∙ c.check_parameters.ensures in
    refused ∙ by-parameters a.p a.text.now a.image.now number (has-number r)

pub returns-in_err-check_parameters-clause-numbers : goal.returns-in_err-check_parameters-clause-numbers
returns-in_err-check_parameters-clause-numbers c = numbered _ _ _ (returns-in_err-check_parameters-clause-value c)

-- They fit, and the image or the text does not.
pub returns-then-image-p-clause-value : goal.returns-then-image-p-clause-value
returns-then-image-p-clause-value c =
    let a = c.args in
    let fit : Fit a.p = sym c.check_parameters.ensures ∙ ap refusal_number c.in_ok-check_parameters.was in
    ap (λ (e : LoadError). Refused (refusal_number_of e.refusal) e.line) c.from.ensures ∙ by_length a.p a.text.now a.image.now fit c.if-image-p.true

pub returns-then-image-p-clause-numbers : goal.returns-then-image-p-clause-numbers
returns-then-image-p-clause-numbers c = numbered _ _ _ (returns-then-image-p-clause-value c)

pub returns-then-text-gt-MAX_TEXT-clause-value : goal.returns-then-text-gt-MAX_TEXT-clause-value
returns-then-text-gt-MAX_TEXT-clause-value c =
    let a = c.args in
    let fit : Fit a.p = sym c.check_parameters.ensures ∙ ap refusal_number c.in_ok-check_parameters.was in
    let refused : c.from-then-text-gt-MAX_TEXT.result ≡ record { refusal = TextLength; line = 0 } = search rules in
    ap (λ (e : LoadError). Refused (refusal_number_of e.refusal) e.line) refused ∙ by-text a.p a.text.now a.image.now fit c.if-image-p.false c.if-text-gt-MAX_TEXT.true

pub returns-then-text-gt-MAX_TEXT-clause-numbers : goal.returns-then-text-gt-MAX_TEXT-clause-numbers
returns-then-text-gt-MAX_TEXT-clause-numbers c = numbered _ _ _ (returns-then-text-gt-MAX_TEXT-clause-value c)

-- All fits.
pub returns-clause-value : goal.returns-clause-value
returns-clause-value c =
    let a = c.args in
    let fit : Fit a.p = sym c.check_parameters.ensures ∙ ap refusal_number c.in_ok-check_parameters.was in
    by_lines a.p a.text.now a.image.now fit c.if-image-p.false (omega arith) (c.load_lines.ensures.value ∙ ap (λ (p : Parameters). text_reply p a.text.now) c.new.ensures)

pub returns-clause-numbers : goal.returns-clause-numbers
returns-clause-numbers c = numbered _ _ _ (returns-clause-value c)
