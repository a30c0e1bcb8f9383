-- `check_shape` meets its contract, check by check. Assumes nothing.
use mathlib.Core.Path.{sym}
use Rattle.model.proofs.Replies.{positive, handed-on}
use Rattle.machine.proofs.RefusalLaws.{by-parameters, by_length, shape-passed}
use Rattle.machine.proofs.checks.check_shape.Goals as goal

pub returns-in_err-check_parameters : goal.returns-in_err-check_parameters
returns-in_err-check_parameters c =
    handed-on _ _ c.from_residual.ensures (by-parameters c.args.p c.args.image.now c.in_err-check_parameters.ensures (positive _))

pub returns-then-image-p : goal.returns-then-image-p
returns-then-image-p c = by_length c.args.p c.args.image.now (sym c.in_ok-check_parameters.ensures) c.if-image-p.true

pub returns : goal.returns
returns c = shape-passed c.args.p c.args.image.now (sym c.in_ok-check_parameters.ensures) c.if-image-p.false
