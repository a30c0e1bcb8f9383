-- `input` meets its contract. Assumes nothing.
use Rattle.std.proofs.Common.{rules}
use mathlib.Core.Path.{◌∙◌}
use mir.Facts.{to_z-of_z}
use mir.Syntax.{w32}
use mir.Val.{SFits}
use Rattle.bounds.proofs.LimitLaws.{one, at_most}
use Rattle.plans.proofs.PlanLaws.{input_none, input-some}
use Rattle.plans.proofs.input.Goals as goal

pub returns-in_default : goal.returns-in_default
returns-in_default c = let a = c.args in c.fail.ensures ∙ input_none a.w a.m a.at a.bytes.now c.in_default.ensures

pub read_number-requires : goal.read_number-requires
read_number-requires c = let l = c.requires.limit in (one l, at_most l)

pub returns-in-Ok : goal.returns-in-Ok
returns-in-Ok c =
    let a = c.args in
    let f : SFits w32 c.in-Ok.value = search rules in
    c.store.ensures
    ∙ rw (to_z-of_z f) (input-some a.w a.m a.at a.bytes.now c.in-Some.ensures (rw c.in-Ok.is at c.read_number.ensures.answer))

pub returns-in-Err-NotANumber : goal.returns-in-Err-NotANumber
returns-in-Err-NotANumber c =
    let a = c.args in
    let s = c.in-Err-NotANumber in
    c.fail-in-Err-NotANumber.ensures ∙ input-some a.w a.m a.at a.bytes.now c.in-Some.ensures (rw (s.is, s.field-0-is) at c.read_number.ensures.answer)

pub returns-in-Err-Outside : goal.returns-in-Err-Outside
returns-in-Err-Outside c =
    let a = c.args in
    let s = c.in-Err-Outside in
    c.fail-in-Err-Outside.ensures ∙ input-some a.w a.m a.at a.bytes.now c.in-Some.ensures (rw (s.is, s.field-0-is) at c.read_number.ensures.answer)
