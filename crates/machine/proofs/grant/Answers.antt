-- `grant` meets its contract. Assumes nothing.
use native.Mathlib.Omega.{arith}
use Rattle.model.proofs.Fits.{limits}
use Rattle.model.specs.Calls.{as_held, as_call}
use Rattle.model.specs.Step.{environment_of}
use Rattle.steps.proofs.Tops.{top-between}
use Rattle.machine.proofs.CallLaws.{fits, heads-fit, grant-refuses, runnable, grant-accepts}
use Rattle.machine.proofs.grant.Goals as goal

pub returns-in_err-check_grant : goal.returns-in_err-check_grant
returns-in_err-check_grant c =
    let e = environment_of c.args.rec.parameters c.args.image.now c.args.input.now in
    let h = as_held c.args.rec c.args.registers.now c.args.cells.now in
    let call = as_call c.args.cycles c.args.out.now in
    grant-refuses e h call _ _ c.from_residual.ensures (c.in_err-check_grant.ensures call.slice)

pub returns : goal.returns
returns c =
    let e = environment_of c.args.rec.parameters c.args.image.now c.args.input.now in
    let h = as_held c.args.rec c.args.registers.now c.args.cells.now in
    let call = as_call c.args.cycles c.args.out.now in
    grant-accepts e h call (c.in_ok-check_grant.ensures call.slice) _ _ (c.core_of.ensures h.memory) c.peak_of.ensures.0
    (rw c.new.ensures at c.run-ran.ensures) (c.record_of.ensures h.memory)

pub new-requires : goal.new-requires
new-requires c =
    let e = environment_of c.args.rec.parameters c.args.image.now c.args.input.now in
    let h = as_held c.args.rec c.args.registers.now c.args.cells.now in
    let call = as_call c.args.cycles c.args.out.now in
    (fits e h call (c.in_ok-check_grant.ensures call.slice)).start.fit

pub invariant_of-program : goal.invariant_of-program
invariant_of-program c =
    let e = environment_of c.args.rec.parameters c.args.image.now c.args.input.now in
    let h = as_held c.args.rec c.args.registers.now c.args.cells.now in
    let call = as_call c.args.cycles c.args.out.now in
    let start = (fits e h call (c.in_ok-check_grant.ensures call.slice)).start in
    record { image_length = rw c.new.ensures start.image-length; fits = rw c.new.ensures start.image-fits }

pub overflow_add-granted : goal.overflow_add-granted
overflow_add-granted c =
    let e = environment_of c.args.rec.parameters c.args.image.now c.args.input.now in
    let h = as_held c.args.rec c.args.registers.now c.args.cells.now in
    let call = as_call c.args.cycles c.args.out.now in
    record { fits = omega (arith, (fits e h call (c.in_ok-check_grant.ensures call.slice)).granted) }

pub core_of-requires : goal.core_of-requires
core_of-requires c =
    let e = environment_of c.args.rec.parameters c.args.image.now c.args.input.now in
    let h = as_held c.args.rec c.args.registers.now c.args.cells.now in
    heads-fit e h (as_call c.args.cycles c.args.out.now) (c.in_ok-check_grant.ensures c.args.out.now)

pub peak_of-requires : goal.peak_of-requires
peak_of-requires c =
    let e = environment_of c.args.rec.parameters c.args.image.now c.args.input.now in
    let h = as_held c.args.rec c.args.registers.now c.args.cells.now in
    heads-fit e h (as_call c.args.cycles c.args.out.now) (c.in_ok-check_grant.ensures c.args.out.now)

pub run-ran-requires : goal.run-ran-requires
run-ran-requires c =
    let e = environment_of c.args.rec.parameters c.args.image.now c.args.input.now in
    let h = as_held c.args.rec c.args.registers.now c.args.cells.now in
    let call = as_call c.args.cycles c.args.out.now in
    rw c.new.ensures (runnable e h call (c.in_ok-check_grant.ensures call.slice) _ _ (c.core_of.ensures h.memory) c.peak_of.ensures.0 c.peak_of.ensures.1)

pub record_of-requires : goal.record_of-requires
record_of-requires c =
    let e = environment_of c.args.rec.parameters c.args.image.now c.args.input.now in
    let h = as_held c.args.rec c.args.registers.now c.args.cells.now in
    let call = as_call c.args.cycles c.args.out.now in
    let l = limits c.args.rec.parameters (fits e h call (c.in_ok-check_grant.ensures call.slice)).start.fit in
    let r = (rw c.new.ensures at c.run-ran.ensures) in (
      omega (arith, r.sound.iar, l.t-high),
      omega (arith, top-between c.run-ran.result.core.top c.args.rec.parameters.s r.sound.high, l.s-high),
      omega (arith, r.peak-high, l.s-high),
    )
