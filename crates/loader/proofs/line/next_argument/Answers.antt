-- `line::next_argument` meets its contract, by the laws of LineLaws. Assumes nothing.
use mathlib.Core.Path.{◌≡◌, sym, ap, ◌∙◌}
use mathlib.Core.Bool.{Bool, true, false, cond}
use Prim.Native.Nat.{ℕ}
use Rattle.model.specs.Load.{Checked, fault}
use Rattle.model.specs.Words.{Cell}
use Rattle.text.specs.Words.{words_left}
use Rattle.loader.specs.Faults.{checked_of}
use Rattle.loader.proofs.LineLaws.{argument_absent, argument-missing, argument-fine, argument-fault}
use Rattle.loader.proofs.line.next_argument.Goals as goal

pub returns-then-forms-eq0 : goal.returns-then-forms-eq0
returns-then-forms-eq0 c = λ n xs. argument_absent c.args.limits.parameters c.requires n xs (words_left c.args.words.now) c.if-forms-eq0.true

pub returns-in_default : goal.returns-in_default
returns-in_default c = λ n xs. argument-missing c.args.limits.parameters c.requires n xs (words_left c.args.words.now) c.if-forms-eq0.false c.in_default.ensures.steps.0

pub returns-in-Ok : goal.returns-in-Ok
returns-in-Ok c = λ n xs. argument-fine c.args.limits.parameters c.requires n xs (words_left c.args.words.now) c.if-forms-eq0.false c.in-Some.ensures.steps _ (sym c.argument_word.ensures ∙ ap (checked_of (λ x. x)) c.in-Ok.is)

-- The fault's number, whichever it is.
number-chosen : (b : Bool) (n k : ℕ) → n ≡ cond b k 12 → ◌≡◌ {A = Checked Cell} (cond b (fault k) (fault 12)) (fault n)
number-chosen true n k e = ap fault (sym e)
number-chosen false n k e = ap fault (sym e)

pub returns-in-Err : goal.returns-in-Err
returns-in-Err c =
    λ n xs. argument-fault c.args.limits.parameters c.requires n xs (words_left c.args.words.now) c.if-forms-eq0.false c.in-Some.ensures.steps _ (sym c.argument_word.ensures ∙ ap (checked_of (λ x. x)) c.in-Err.is)
    ∙ number-chosen _ _ _ c.fault_unless_miscounted.ensures
