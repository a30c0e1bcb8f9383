-- `look` meets its contract. Assumes nothing.
use Rattle.model.specs.Step.{environment_of}
use Rattle.operands.specs.Cores.{state_in}
use Rattle.engine.proofs.LookLaws.{reads, is-fit, found-failed, found-end, found_empty, found_paused, found-full, found-runs}
use Rattle.engine.proofs.looks.look.Goals as goal

pub returns-then-at-ne0 : goal.returns-then-at-ne0
returns-then-at-ne0 c input m z =
    found-failed (environment_of c.args.p c.args.image.now input) (state_in c.args.at m) c.args.allowance c.args.room c.if-at-ne0.true

pub returns-then-iar-p : goal.returns-then-iar-p
returns-then-iar-p c input m z =
    found-end (environment_of c.args.p c.args.image.now input) (state_in c.args.at m) c.args.allowance c.args.room c.if-at-ne0.false c.if-iar-p.true

pub returns-then-number-eq0 : goal.returns-then-number-eq0
returns-then-number-eq0 c input m z =
    let k = reads c.args.p c.args.image.now c.args.at c.requires.image_value c.if-at-ne0.false c.requires.iar_le_t c.if-iar-p.false c.read_cell-i.ensures in
    found_empty k input m.registers m.cells c.args.allowance c.args.room c.if-number-eq0.true

pub cost-cycles-requires : goal.cost-cycles-requires
cost-cycles-requires c =
    let k = reads c.args.p c.args.image.now c.args.at c.requires.image_value c.if-at-ne0.false c.requires.iar_le_t c.if-iar-p.false c.read_cell-i.ensures in
    is-fit k c.if-number-eq0.false

pub returns-then-allowance-cycles : goal.returns-then-allowance-cycles
returns-then-allowance-cycles c input m z =
    let k = reads c.args.p c.args.image.now c.args.at c.requires.image_value c.if-at-ne0.false c.requires.iar_le_t c.if-iar-p.false c.read_cell-i.ensures in
    found_paused k input m.registers m.cells c.args.allowance c.args.room c.if-number-eq0.false c.cost-cycles.ensures c.if-allowance-cycles.true

pub returns-then-room-values : goal.returns-then-room-values
returns-then-room-values c input m z =
    let k = reads c.args.p c.args.image.now c.args.at c.requires.image_value c.if-at-ne0.false c.requires.iar_le_t c.if-iar-p.false c.read_cell-i.ensures in
    found-full k input m.registers m.cells c.args.allowance c.args.room c.if-number-eq0.false c.cost-cycles.ensures c.if-allowance-cycles.false c.value_count-values.ensures z.register-count z.cell-count c.if-room-values.true

pub returns : goal.returns
returns c input m z =
    let k = reads c.args.p c.args.image.now c.args.at c.requires.image_value c.if-at-ne0.false c.requires.iar_le_t c.if-iar-p.false c.read_cell-i.ensures in
    found-runs k input m.registers m.cells c.args.allowance c.args.room c.if-number-eq0.false c.cost-cycles.ensures c.if-allowance-cycles.false c.value_count-values.ensures z.register-count z.cell-count c.if-room-values.false
