-- `grant_to` meets its contract. Assumes nothing.
use Rattle.model.specs.Calls.{as_call}
use Rattle.model.specs.Step.{environment_of, with_parameters}
use Rattle.tak.specs.Calls.{as_slices}
use Rattle.tak.specs.Records.{record_from}
use Rattle.tak.proofs.CallLaws.{grant-accepted, grant-refused}
use Rattle.tak.proofs.Narrow.{accepted_narrow}
use Rattle.tak.proofs.grant_to.Goals as goal

pub put_record-requires : goal.put_record-requires
put_record-requires c =
    let a = c.args in
    let e = environment_of (record_from a.fields.now).parameters a.image.now a.input.now in
    let s = as_slices a.fields.now a.registers.now a.cells.now in
    let r = c.record_from-rec.result in (
      accepted_narrow (with_parameters r.parameters e) (record { rec = r; memory = s.memory }) (as_call a.cycles a.output.now) _ _ _ c.in-Ok.ensures,
      c.if-fields-ne-RECORD_LENGTH.false,
    )

pub returns-in-Ok : goal.returns-in-Ok
returns-in-Ok c =
    let a = c.args in
    grant-accepted (environment_of (record_from a.fields.now).parameters a.image.now a.input.now)
    (as_slices a.fields.now a.registers.now a.cells.now) (as_call a.cycles a.output.now) c.if-fields-ne-RECORD_LENGTH.false
    c.record_from-rec.ensures _ _ _ c.in-Ok.ensures c.ending_number.ensures c.put_record.ensures

pub returns-in-Err : goal.returns-in-Err
returns-in-Err c =
    let a = c.args in
    rw (c.refused_grant-in-Err.ensures, c.from.ensures)
    (grant-refused (environment_of (record_from a.fields.now).parameters a.image.now a.input.now)
    (as_slices a.fields.now a.registers.now a.cells.now) (as_call a.cycles a.output.now) c.if-fields-ne-RECORD_LENGTH.false
    c.record_from-rec.ensures _ _ _ c.in-Err.ensures)
