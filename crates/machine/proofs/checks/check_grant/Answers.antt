-- `check_grant` meets its contract, check by check. Assumes nothing.
use mathlib.Core.Path.{sym, ◌∙◌}
use Rattle.model.proofs.Fits.{start-accepted}
use Rattle.model.specs.Calls.{as_held}
use Rattle.model.specs.Step.{environment_of}
use Rattle.model.proofs.Replies.{positive, handed-on}
use Rattle.machine.proofs.RefusalLaws.{input_unseen, by-start, by_record, granted-limit, by-input, by-cycles, grant-passed}
use Rattle.machine.proofs.checks.check_grant.Goals as goal

pub returns-in_err-check_start : goal.returns-in_err-check_start
returns-in_err-check_start c =
    let e = environment_of c.args.rec.parameters c.args.image.now c.args.input.now in
    let h = as_held c.args.rec c.args.registers.now c.args.cells.now in
    λ slice. handed-on _ _ c.from_residual.ensures
    (by-start e h c.args.cycles (c.in_err-check_start.ensures ∙ input_unseen e h.memory) (positive _) slice)

pub record_fits-requires : goal.record_fits-requires
record_fits-requires c =
    let e = environment_of c.args.rec.parameters c.args.image.now c.args.input.now in
    let h = as_held c.args.rec c.args.registers.now c.args.cells.now in
    let checked = sym (c.in_ok-check_start.ensures ∙ input_unseen e h.memory) in
    (start-accepted e h.memory checked).fit

pub returns-then-not-record_fits : goal.returns-then-not-record_fits
returns-then-not-record_fits c =
    let e = environment_of c.args.rec.parameters c.args.image.now c.args.input.now in
    let h = as_held c.args.rec c.args.registers.now c.args.cells.now in
    let checked = sym (c.in_ok-check_start.ensures ∙ input_unseen e h.memory) in
    by_record e h c.args.cycles checked (sym (c.record_fits.ensures e.image) ∙ c.if-not-record_fits.true)

pub returns-then-input-gt-MAX_INPUT : goal.returns-then-input-gt-MAX_INPUT
returns-then-input-gt-MAX_INPUT c =
    let e = environment_of c.args.rec.parameters c.args.image.now c.args.input.now in
    let h = as_held c.args.rec c.args.registers.now c.args.cells.now in
    let checked = sym (c.in_ok-check_start.ensures ∙ input_unseen e h.memory) in
    let fitting = sym (c.record_fits.ensures e.image) ∙ c.if-not-record_fits.false in
    by-input e h c.args.cycles checked fitting c.if-input-gt-MAX_INPUT.true

pub cycles_fit-requires : goal.cycles_fit-requires
cycles_fit-requires c =
    let e = environment_of c.args.rec.parameters c.args.image.now c.args.input.now in
    let h = as_held c.args.rec c.args.registers.now c.args.cells.now in
    let checked = sym (c.in_ok-check_start.ensures ∙ input_unseen e h.memory) in
    let fitting = sym (c.record_fits.ensures e.image) ∙ c.if-not-record_fits.false in
    granted-limit e h c.args.cycles checked fitting

pub returns-then-not-cycles_fit : goal.returns-then-not-cycles_fit
returns-then-not-cycles_fit c =
    let e = environment_of c.args.rec.parameters c.args.image.now c.args.input.now in
    let h = as_held c.args.rec c.args.registers.now c.args.cells.now in
    let checked = sym (c.in_ok-check_start.ensures ∙ input_unseen e h.memory) in
    let fitting = sym (c.record_fits.ensures e.image) ∙ c.if-not-record_fits.false in
    by-cycles e h c.args.cycles checked fitting c.if-input-gt-MAX_INPUT.false (sym c.cycles_fit.ensures ∙ c.if-not-cycles_fit.true)

pub returns : goal.returns
returns c =
    let e = environment_of c.args.rec.parameters c.args.image.now c.args.input.now in
    let h = as_held c.args.rec c.args.registers.now c.args.cells.now in
    let checked = sym (c.in_ok-check_start.ensures ∙ input_unseen e h.memory) in
    let fitting = sym (c.record_fits.ensures e.image) ∙ c.if-not-record_fits.false in
    grant-passed e h c.args.cycles checked fitting c.if-input-gt-MAX_INPUT.false (sym c.cycles_fit.ensures ∙ c.if-not-cycles_fit.false)
