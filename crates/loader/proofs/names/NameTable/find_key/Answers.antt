-- `NameTable::find_key` meets its contract: only the place at the key's slot can have the key. Assumes nothing.
use borrow.Author.Tests.{ltb-false}
use Rattle.std.specs.Option.{is_some}
use Rattle.std.proofs.Common.{ap, ◌≤◌, ◌∙◌, sym, length, arith}
use Rattle.loader.proofs.NameLaws.{slot-found, slot_past, slot_other}
use Rattle.loader.proofs.names.NameTable.find_key.Goals as goal

pub returns-in-Some : goal.returns-in-Some
returns-in-Some c =
    let t = c.args.self.now in
    let l = c.in-Some.ensures.lookup.3 in
    let found = slot-found t.slots t.slots_value.1 c.args.key c.from.result (sym c.from.ensures) (rw (sym t.keys_value) l.0) (rw (sym t.keys_value) (sym (l.1 0) ∙ c.if-k-key.true)) in
    (omega (arith, found.0, c.from-in-Some.ensures, c.from.ensures), found.1)

pub returns-in_default : goal.returns-in_default
returns-in_default c =
    let t = c.args.self.now in
    let l = c.in-Some.ensures.lookup.3 in
    slot_other t.slots t.slots_value.1 c.args.key c.from.result (sym c.from.ensures) (λ e. c.if-k-key.false (l.1 0 ∙ rw t.keys_value e))

pub returns-in_default-2 : goal.returns-in_default-2
returns-in_default-2 c =
    let t = c.args.self.now in
    let past : length t.keys ≤ c.from.result = ltb-false _ _ (sym c.get.ensures.lookup.0 ∙ ap is_some c.in_default.is) in
    slot_past t.slots t.slots_value.1 c.args.key c.from.result (sym c.from.ensures) (rw (sym t.keys_value) past)
