-- `run_grant` meets its contract. Assumes nothing.
use mathlib.Core.Path.{sym}
use native.Mathlib.Omega.{arith}
use lib.Seq.{length-take-le}
use Rattle.model.specs.Calls.{as_held, as_call}
use Rattle.model.specs.Step.{environment_of}
use Rattle.session.proofs.Pieces.{put-length, put_then}
use Rattle.session.proofs.Lines.{written-fits, reported}
use Rattle.session.proofs.run_grant.Goals as goal

pub slice_bounds-put_values-end : goal.slice_bounds-put_values-end
slice_bounds-put_values-end c = rw (c.values_written-count.ensures c.args.rec) (written-fits c.grant-reply.ensures)

pub slice_bounds-put_values-end-2 : goal.slice_bounds-put_values-end-2
slice_bounds-put_values-end-2 c =
    rw (c.values_written-count.ensures c.args.rec) (sym (length-take-le _ _ (written-fits c.grant-reply.ensures)))

pub returns : goal.returns
returns c =
    let a = c.args in
    let first = rw (c.values_written-count.ensures a.rec) at c.put_values-at.ensures.put in
    let last = c.finish-last.ensures in
    let all = put_then first last.put in
    record {
      report_is =
          reported (environment_of a.rec.parameters a.image.now a.input.now) (as_held a.rec a.registers.now a.cells.now)
          (as_call a.cycles a.values.now) a.lines.now
          c.grant-reply.ensures first last.put last.next_value c.requires.0 (omega arith);
      within = omega (arith, all.room, all.end, put-length all);
    }
