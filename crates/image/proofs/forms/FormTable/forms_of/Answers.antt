-- `FormTable::forms_of` meets its contract. Assumes nothing.
use Rattle.image.proofs.FormLaws.{table-entry}
use Rattle.image.proofs.forms.FormTable.forms_of.Goals as goal

pub returns : goal.returns
returns c = rw c.args.self.now.value (table-entry c.args.number)
