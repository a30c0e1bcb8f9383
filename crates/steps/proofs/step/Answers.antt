-- `step` meets its contract. Assumes nothing.
use mathlib.Core.List.{List}
use mathlib.Core.Path.{◌≡◌, ap, ◌∙◌}
use lib.IntN.{ℤ}
use lib.Signed.{mag}
use Prim.Native.Nat.{◌^◌, ◌<◌}
use mir.Facts.{to_z-of_z}
use mir.Syntax.{w32}
use mir.Val.{SFits, to_z, of_z}
use Rattle.effects.specs.Effects.{output_after}
use Rattle.steps.proofs.Ready.{bounded, indexed, choosable, values-are, room_enough, is-paired, stepped, failed, output-left}
use Rattle.steps.proofs.step.Goals as goal

-- A value as it was read.
value_read : {r z : ℤ} → mag r < 2 ^ 31 → r ≡ z → to_z w32 (of_z w32 r) ≡ z
value_read {r} k e = let f : SFits w32 r = record { sfits = k } in to_z-of_z f ∙ e

pub read-x-requires : goal.read-x-requires
read-x-requires c = bounded c.args.limits c.requires

pub read-y-requires : goal.read-y-requires
read-y-requires c = bounded c.args.limits c.requires

pub choose-plan-requires : goal.choose-plan-requires
choose-plan-requires c =
    choosable c.args.limits c.requires (value_read c.read-x.type_inv c.read-x.ensures) (value_read c.read-y.type_inv c.read-y.ensures)

pub returns-then-code-ne0 : goal.returns-then-code-ne0
returns-then-code-ne0 c =
    let e = value_read c.read-x.type_inv c.read-x.ensures in
    let f = value_read c.read-y.type_inv c.read-y.ensures in
    let g = c.choose-plan.ensures in
    let h = c.requires in
    record { state = failed c.args.limits h e f g c.if-code-ne0.true; output = output-left c.args.limits h e f g c.if-code-ne0.true c.args.out.now }

pub apply-requires : goal.apply-requires
apply-requires c =
    let e = value_read c.read-x.type_inv c.read-x.ensures in
    let f = value_read c.read-y.type_inv c.read-y.ensures in
    let g = c.choose-plan.ensures in
    record {
      indexed = indexed c.args.limits c.requires;
      cells_in_bounds = room_enough c.args.limits c.requires e f g;
      paired = is-paired c.args.limits c.requires e f g;
    }

pub returns : goal.returns
returns c =
    let e = value_read c.read-x.type_inv c.read-x.ensures in
    let f = value_read c.read-y.type_inv c.read-y.ensures in
    let g = c.choose-plan.ensures in
    record {
      state = λ image. stepped c.args.limits c.requires e f g c.if-code-ne0.false image c.apply.ensures.registers_after c.apply.ensures.cells_after;
      output = c.apply.ensures.out_after ∙ ap (λ (l : List ℤ). output_after l c.args.out.now) (values-are c.args.limits c.requires e f g);
    }
