-- `decode::word_fits` meets its contract. Assumes nothing.
use mathlib.Core.Path.{sym, ◌∙◌}
use mir.Facts.{to_z-of_z}
use mir.Syntax.{w32}
use mir.Val.{SFits}
use Rattle.model.specs.Words.{content_of, number_of}
use Rattle.image.proofs.FitLaws.{is-limit, head-word, register-word, direct_word, number_word}
use Rattle.image.proofs.decode.word_fits.Goals as goal

pub in_range-requires : goal.in_range-requires
in_range-requires c = is-limit c.args.limits.parameters c.args.limits.fit c.args.limits.m_value

pub returns-in-Head : goal.returns-in-Head
returns-in-Head c =
    let a = c.args in
    sym (head-word a.limits.parameters a.form a.w (rw c.in-Head.is at (sym c.kind.ensures)))

pub returns-in-Register : goal.returns-in-Register
returns-in-Register c =
    let a = c.args in
    rw c.content.ensures at c.register_fits.ensures ∙ sym (register-word a.limits.parameters a.form a.w (rw c.in-Register.is at (sym c.kind.ensures)))

pub returns-then-allows_direct : goal.returns-then-allows_direct
returns-then-allows_direct c =
    let a = c.args in
    rw (direct_word a.limits.parameters a.form a.w (rw c.in-Direct.is at (sym c.kind.ensures)), sym (c.allows_direct.ensures (content_of a.w)) ∙ c.if-allows_direct.true, c.content-then-allows_direct.ensures)

pub returns-else-allows_direct : goal.returns-else-allows_direct
returns-else-allows_direct c =
    let a = c.args in
    rw (direct_word a.limits.parameters a.form a.w (rw c.in-Direct.is at (sym c.kind.ensures)), sym (c.allows_direct.ensures (content_of a.w)) ∙ c.if-allows_direct.false, c.if-allows_direct.false)

pub returns-then-allows_number : goal.returns-then-allows_number
returns-then-allows_number c =
    let a = c.args in
    let f : SFits w32 c.number.result = record { sfits = c.number.type_inv } in
    rw (number_word a.limits.parameters a.form a.w (rw c.in-Number.is at (sym c.kind.ensures)), sym (c.allows_number.ensures (number_of (content_of a.w))) ∙ c.if-allows_number.true)
    (rw (to_z-of_z f, c.number.ensures, c.args.limits.m_value) at c.in_range.ensures)

pub returns-else-allows_number : goal.returns-else-allows_number
returns-else-allows_number c =
    let a = c.args in
    rw (number_word a.limits.parameters a.form a.w (rw c.in-Number.is at (sym c.kind.ensures)), sym (c.allows_number.ensures (number_of (content_of a.w))) ∙ c.if-allows_number.false, c.if-allows_number.false)
