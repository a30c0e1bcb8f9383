-- `tak_start` meets its contract. Assumes nothing.
use mathlib.Core.List.{[]}
use Rattle.model.specs.Step.{environment_of}
use Rattle.tak.specs.Calls.{as_slices, parameters_of}
use Rattle.tak.proofs.CallLaws.{start-accepted, start-refused}
use Rattle.tak.proofs.tak_start.Goals as goal

pub returns-in-Ok : goal.returns-in-Ok
returns-in-Ok c =
    let a = c.args in
    start-accepted (environment_of (parameters_of a.k a.n a.s a.b a.t) a.image.now []) (as_slices a.fields.now a.registers.now a.cells.now)
    c.if-fields-ne-RECORD_LENGTH.false _ c.in-Ok.ensures c.put_record.ensures

pub returns-in-Err : goal.returns-in-Err
returns-in-Err c =
    let a = c.args in
    rw c.from.ensures
    (start-refused (environment_of (parameters_of a.k a.n a.s a.b a.t) a.image.now []) (as_slices a.fields.now a.registers.now a.cells.now)
    c.if-fields-ne-RECORD_LENGTH.false _ c.in-Err.ensures)
