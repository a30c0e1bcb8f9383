-- A step: what is known before it, and what it does.
use Rattle.std.specs.Prelude.{ℕ, ◌≤◌, true, List, ◌≡◌, ℤ, length}
use Rattle.model.proofs.Keeps.{Sound}
use Rattle.model.specs.Images.{cell_fits}
use Rattle.model.specs.Instructions.{row_of}
use Rattle.model.specs.Step.{Environment, Memory, environment_of, written_by, execute, settled}
use Rattle.effects.specs.Effects.{output_after}
use Rattle.image.specs.Decode.{cell_from}
use Rattle.image.specs.declared.decode.Instruction.{Instruction}
use Rattle.operands.specs.Cores.{state_in}
use Rattle.operands.specs.declared.Core.{Core}

-- The values that an instruction writes to the output.
abbrev pub written : Instruction → Core → Memory → List ℤ
written i at m = written_by (row_of i.number).operation (cell_from i) (state_in at m)

-- What refusal 15 asks of the state, an instruction that a text can yield, and room for its values.
pub record Steppable (e : Environment) (i : Instruction) (at : Core) (memory : Memory) (room : ℕ) : Type 0 where
  pub sound : Sound e (state_in at memory)
  pub instruction : cell_fits e.parameters (cell_from i) ≡ true
  pub room_for : length (written i at memory) ≤ room

-- The step, whatever the image. A buffer is marked ₀ before it, ₁ after it.
module _ (e : Environment) (i : Instruction) (at : Core) (memory₀ : Memory) (out₀ : List ℤ) where
  pub record StepIs (r : Core) (memory₁ : Memory) (out₁ : List ℤ) : Type 0 where
    pub state : (image : List ℕ) → state_in r memory₁
        ≡ settled (state_in at memory₀)
        (execute (environment_of e.parameters image e.input) (row_of i.number).operation (cell_from i) (state_in at memory₀))
    pub output : out₁ ≡ output_after (written i at memory₀) out₀
