-- `check_start` meets its contract, check by check. Assumes nothing.
use mathlib.Core.List.{[]}
use mathlib.Core.Path.{sym, ◌∙◌}
use Rattle.model.proofs.Fits.{all_fit, shape-numbered, shape-fit}
use Rattle.model.specs.Calls.{shape_checks}
use Rattle.model.specs.Step.{as_memory, environment_of}
use Rattle.model.proofs.Replies.{positive, handed-on}
use Rattle.machine.proofs.RefusalLaws.{by_shape, by-memory, by-image, start-passed}
use Rattle.machine.proofs.checks.check_start.Goals as goal

pub returns-in_err-check_shape : goal.returns-in_err-check_shape
returns-in_err-check_shape c =
    let e = environment_of c.args.p c.args.image.now [] in
    let m = as_memory c.args.registers.now c.args.cells.now in
    handed-on _ _ c.from_residual.ensures (by_shape e m c.in_err-check_shape.ensures (positive _))

pub returns-then-not-memory_fits : goal.returns-then-not-memory_fits
returns-then-not-memory_fits c =
    let e = environment_of c.args.p c.args.image.now [] in
    let m = as_memory c.args.registers.now c.args.cells.now in
    let shaped = sym c.in_ok-check_shape.ensures in
    by-memory e m shaped (sym c.memory_fits.ensures ∙ c.if-not-memory_fits.true)

pub image_fits-requires : goal.image_fits-requires
image_fits-requires c =
    let a = c.args in
    let shaped = sym c.in_ok-check_shape.ensures in
    let k = shape-fit a.p a.image.now (all_fit (shape_checks a.p a.image.now) (shape-numbered a.p a.image.now) shaped) in
    record { fit = k.0; image_len = k.1 }

pub returns-then-not-image_fits : goal.returns-then-not-image_fits
returns-then-not-image_fits c =
    let e = environment_of c.args.p c.args.image.now [] in
    let m = as_memory c.args.registers.now c.args.cells.now in
    let shaped = sym c.in_ok-check_shape.ensures in
    let fitting = sym c.memory_fits.ensures ∙ c.if-not-memory_fits.false in
    by-image e m shaped fitting (sym c.image_fits.ensures ∙ c.if-not-image_fits.true)

pub returns : goal.returns
returns c =
    let e = environment_of c.args.p c.args.image.now [] in
    let m = as_memory c.args.registers.now c.args.cells.now in
    let shaped = sym c.in_ok-check_shape.ensures in
    let fitting = sym c.memory_fits.ensures ∙ c.if-not-memory_fits.false in
    start-passed e m shaped fitting (sym c.image_fits.ensures ∙ c.if-not-image_fits.false)
