-- Where the machine stands, as the code holds it.
use Rattle.std.specs.Prelude.{◌≤◌, List, length, ℤ, pos, ◌-ℤ◌}
use Rattle.model.specs.Step.{Memory, State}
use Rattle.model.specs.Parameters.{max_registers, max_cells, max_instructions}
use Rattle.operands.specs.declared.Core.{Core}

-- The state of document 01's machine: SHR is top - 1.
abbrev pub state_of : Core → (registers cells : List ℤ) → State
state_of c registers cells =
    record { iar = c.iar; ircr = c.ircr; shr = pos c.top -ℤ pos 1; place = c.place; registers = registers; cells = cells }

-- The same of a memory.
abbrev pub state_in : Core → Memory → State
state_in c m = state_of c m.registers m.cells

-- Bounds that do for a read. A record that fits has them.
pub record Bounded (c : Core) (registers : List ℤ) : Type 0 where
  pub iar : c.iar ≤ max_instructions
  pub ircr : c.ircr ≤ 3
  pub top : c.top ≤ max_cells
  pub register-count : length registers ≤ max_registers
