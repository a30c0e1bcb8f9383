-- `held_long` meets its contract. Assumes nothing.
use mathlib.Core.Path.{refl, ◌∙◌}
use mir.Facts.{to_z-of_z}
use Rattle.tak.specs.Records.{most64}
use Rattle.tak.proofs.Held.{held_converted}
use Rattle.tak.proofs.records.held_long.Goals as goal

pub returns : goal.returns
returns c = c.unwrap_or.ensures ∙ held_converted 64 most64 c.args.z _ refl (rw (to_z-of_z c.ranges.z) at c.try_from.ensures)
