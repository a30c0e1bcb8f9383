-- `div_rem` meets its contract. Assumes nothing.
use Rattle.std.proofs.Common.{◌≡◌, ◌∙◌, arith, rules}
use mir.Facts.{to_z-of_z}
use mir.Syntax.{w32}
use mir.Val.{SFits}
use Rattle.model.specs.Arithmetic.{code}
use Rattle.model.proofs.Division.{remainder_code, remainder_value}
use Rattle.bounds.proofs.LimitLaws.{at_most}
use Rattle.arithmetic.specs.Answers.{code_number_of, quotient_of}
use Rattle.arithmetic.proofs.div_rem.Goals as goal

pub returns-in_err-remainder-clause-quotient : goal.returns-in_err-remainder-clause-quotient
returns-in_err-remainder-clause-quotient c =
    let e : quotient_of c.from_residual.result ≡ code (code_number_of c.in_err-remainder.field-0.0) = search rules in
    e ∙ remainder_code c.args.m c.args.x c.args.y _ (rw (to_z-of_z c.ranges.x, to_z-of_z c.ranges.y) at c.in_err-remainder.ensures.value)

pub returns-clause-remainder : goal.returns-clause-remainder
returns-clause-remainder c =
    let r = rw (to_z-of_z c.ranges.x, to_z-of_z c.ranges.y) at c.in_ok-remainder.ensures.value in
    let l = rw (to_z-of_z c.ranges.x) at c.in_ok-remainder.ensures.range in
    let f : SFits w32 c.in_ok-remainder.remainder = record { sfits = omega (arith, l, c.requires.within, at_most c.requires.limit) } in
    record { value = to_z-of_z f ∙ remainder_value c.args.x c.args.y _ r; range = rw (to_z-of_z f) l }
