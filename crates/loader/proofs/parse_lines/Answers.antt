-- `parse_lines` meets its contract, by the laws of TextLaws at each way out of the loop and each turn. Assumes nothing.
use Rattle.std.proofs.Common.{◌≡◌, ◌<◌, ◌*◌, ◌+◌, ◌-◌, arith, length, sym, ap, ◌∙◌}
use borrow.Rule.Slice.PartMut.{put_mid}
use Rattle.text.specs.Lines.{lines_left}
use lib.Arith.{lt_of_le-ne}
use Rattle.model.specs.Words.{cell_words}
use Rattle.image.specs.Decode.{cell_from}
use Rattle.loader.specs.Faults.{checked_of}
use Rattle.loader.proofs.TextLaws.{at-start, at-fault, cell-written, cell-passed, all_read, all_held}
use Rattle.loader.proofs.parse_lines.Goals as goal
use Rattle.loader.proofs.parse_lines.Goals.{then-write, else-write}

pub loop-line-init : goal.loop-line-init
loop-line-init c =
    let a = c.args in
    let left = ap lines_left c.into_iter-line-iterator.ensures.into_iter_gives ∙ c.new-line-items.ensures in
    (tt, tt, c.requires.0, at-start a.write a.limits.parameters a.text.now a.image.now left c.requires.1)

pub returns-in-Err-clause-value : goal.returns-in-Err-clause-value
returns-in-Err-clause-value c =
    let a = c.args in
    c.line_error.ensures ∙ sym (at-fault a.write a.limits.parameters a.text.now a.image.now c.loop-line.invariant.3 c.in-Some.ensures.steps _ (sym c.parse_line.ensures ∙ ap (checked_of cell_from) c.in-Err.is))

pub loop-line-preserved : goal.loop-line-preserved
loop-line-preserved c =
    let a = c.args in
    let p = a.limits.parameters in
    let inv = c.loop-line.invariant.3 in
    let q = sym c.parse_line.ensures ∙ ap (checked_of cell_from) c.in-Ok.is in
    let i : c.loop-line.i < p.t = lt_of_le-ne inv.few c.if-i-t.false in
    elim c.if-write.branch [
      | then-write w ↦
          let four : 4 * c.loop-line.i + 4 - 4 * c.loop-line.i ≡ 4 = omega arith in
          let put : c.if-write.image ≡ put_mid (4 * c.loop-line.i) 4 c.loop-line.image (cell_words (cell_from c.in-Ok.cell)) = rw (four, w.write_cell.ensures) at w.image-is in (
            tt,
            tt,
            c.if-write.auto.image ∙ c.loop-line.invariant.2,
            rw put (cell-written a.write p a.text.now a.image.now inv c.in-Some.ensures.steps (cell_from c.in-Ok.cell) i q w.if-write.true),
          )
      | else-write w ↦ (
        tt,
        tt,
        ap length w.image-is ∙ c.loop-line.invariant.2,
        rw w.image-is (cell-passed a.write p a.text.now a.image.now inv c.in-Some.ensures.steps (cell_from c.in-Ok.cell) i q w.if-write.false),
      )
    ]

pub returns-clause-value : goal.returns-clause-value
returns-clause-value c = all_read c.args.write c.args.limits.parameters c.args.text.now c.args.image.now c.loop-line.invariant.3 c.in-None.ensures.steps.0

pub returns-clause-image : goal.returns-clause-image
returns-clause-image c = all_held c.args.write c.args.limits.parameters c.args.text.now c.args.image.now c.loop-line.invariant.3 c.in-None.ensures.steps.0
