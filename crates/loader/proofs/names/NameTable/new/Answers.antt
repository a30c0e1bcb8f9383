-- `NameTable::new` makes the table: the keys of the names and their slots are computed. Assumes nothing.
use mathlib.Core.Path.{refl}
use Rattle.model.specs.Load.{names}
use Rattle.loader.specs.Keys.{key_from, key_table, slotted}
use Rattle.loader.proofs.names.NameTable.new.Goals as goal

pub invariant_of-result : goal.invariant_of-result
unfolding key_table key_from names slotted
invariant_of-result c = record { keys_value = refl; slots_value = (refl, refl) }
