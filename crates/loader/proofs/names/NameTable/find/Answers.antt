-- `NameTable::find` meets its contract. Assumes nothing.
use Prim.Native.Nat.{ℕ}
use mathlib.Core.Path.{sym, ap, subst, ◌∙◌}
use native.Mathlib.Omega.{arith}
use Rattle.loader.specs.Keys.{key_table, place_from, Finds}
use Rattle.loader.proofs.NameLaws.{short-word}
use Rattle.loader.proofs.names.NameTable.find.Goals as goal

pub returns : goal.returns
returns c =
    let by_key = ap (λ (k : ℕ). place_from 5 k key_table) c.word_key.ensures ∙ sym (short-word c.args.w.now (λ i. (c.type_inv.w i).fits) (omega arith)) in
    subst (Finds c.find_key.result) by_key c.find_key.ensures
