-- What is asked of a record whose SHR and deepest SHR the code holds raised by one.
use Rattle.std.specs.Prelude.{◌≤◌, true, ◌≡◌, pos, ◌-ℤ◌}
use Rattle.std.specs.Int.Signed.{le_z}
use Rattle.model.specs.Parameters.{max_cells}
use Rattle.model.specs.declared.Record.{Record}

-- What 15 asks of SHR and the deepest SHR, and 3 of S.
pub record HeadsFit (r : Record) : Type 0 where
  pub low : le_z (pos r.parameters.b -ℤ pos 1) r.shr ≡ true
  pub high : le_z r.shr (pos r.parameters.s -ℤ pos 1) ≡ true
  pub above : le_z r.shr r.deepest ≡ true
  pub deepest-high : le_z r.deepest (pos r.parameters.s -ℤ pos 1) ≡ true
  pub cells : r.parameters.s ≤ max_cells
