-- `FormTable::new` makes the table of the rows' forms. Assumes nothing.
use mathlib.Core.Path.{refl}
use Rattle.image.specs.Forms.{packed, form_table}
use Rattle.image.proofs.forms.FormTable.new.Goals as goal

pub invariant_of-result : goal.invariant_of-result
unfolding form_table packed
invariant_of-result c = record { value = refl }
