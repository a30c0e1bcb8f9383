-- `word_key` meets its contract: the key of the bytes passed, and the bytes left behind it. Assumes nothing.
use Prim.Native.Nat.{ℕ, ◌+◌, ◌*◌}
use mathlib.Core.Path.{sym, ap, ◌∙◌}
use native.Mathlib.Omega.{arith}
use lib.ListN.{drop}
use Rattle.loader.specs.Keys.{key_from}
use Rattle.loader.proofs.NameLaws.{key-end, key_byte, key-bits, key_fits}
use Rattle.loader.proofs.names.word_key.Goals as goal

pub overflow_add-key : goal.overflow_add-key
overflow_add-key c =
    let inv = c.loop-b.invariant in
    let f = key_fits c.loop-b.key c.upper.result c.loop-b.b-index inv.1 (omega arith) c.upper.type_inv in
    omega arith

pub loop-b-preserved : goal.loop-b-preserved
loop-b-preserved c =
    let inv = c.loop-b.invariant in
    let w = c.args.w.now in
    let k = c.loop-b.key in
    let i = c.loop-b.b-index in (
      inv.0,
      key-bits k c.from.result i inv.1 (omega (arith, c.upper.type_inv, c.from.ensures)),
      inv.2 ∙ key_byte k w i (omega arith) ∙ ap (λ (u : ℕ). key_from (k * 256 + u) (drop (i + 1) w)) (sym (c.from.ensures ∙ c.upper.ensures)),
    )

pub returns : goal.returns
returns c = let inv = c.loop-b.invariant in sym (inv.2 ∙ key-end _ _ _ c.loop-b-test.false)
