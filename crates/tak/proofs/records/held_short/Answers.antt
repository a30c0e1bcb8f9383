-- `held_short` meets its contract. Assumes nothing.
use mathlib.Core.Path.{refl, ◌∙◌}
use mir.Facts.{to_z-of_z}
use Rattle.tak.specs.Records.{most32}
use Rattle.tak.proofs.Held.{held_converted}
use Rattle.tak.proofs.records.held_short.Goals as goal

pub returns : goal.returns
returns c = c.unwrap_or.ensures ∙ held_converted 32 most32 c.args.z _ refl (rw (to_z-of_z c.ranges.z) at c.try_from.ensures)
