-- A run of looks and steps, as the code has it. The deepest SHR is kept as `peak`, which is one more, as `top` is SHR + 1.
use Rattle.std.specs.Prelude.{ℕ, ◌≤◌, List, [], ◌++◌, ◌≡◌, ℤ, pos, ◌-ℤ◌, length, drop}
use Rattle.model.proofs.Keeps.{Sound}
use Rattle.model.specs.Grants.{Stop, run}
use Rattle.model.specs.Step.{Environment, Memory, State, Tak}
use Rattle.operands.specs.Cores.{state_in}
use Rattle.operands.specs.declared.Core.{Core}
use Rattle.engine.specs.declared.Ran.{Ran}

-- What passed checks say of the record and the memory.
pub record Runnable (e : Environment) (start : Core) (peak before granted : ℕ) (memory : Memory) : Type 0 where
  pub sound : Sound e (state_in start memory)
  pub paid : before ≤ granted
  pub peak-high : peak ≤ e.parameters.s

-- A buffer is marked ₀ before the run, ₁ after it.
module _ (e : Environment) (start : Core) (peak before granted : ℕ) (memory₀ : Memory) (slice₀ : List ℤ) where
  -- Where document 01's machine stops, and how.
  abbrev pub stop_at : Stop State
  stop_at =
      run (Tak e) granted (length slice₀)
      (record { state = state_in start memory₀; spent = before; deepest = pos peak -ℤ pos 1; written = [] })

  -- The code stops there, in that way; "the rest keeps its contents".
  pub record RunIs (r : Ran) (memory₁ : Memory) (slice₁ : List ℤ) : Type 0 where
    pub ending : r.ending ≡ stop_at.ending
    pub state : state_in r.core memory₁ ≡ stop_at.at.state
    pub spent : r.spent ≡ stop_at.at.spent
    pub deepest : pos r.peak -ℤ pos 1 ≡ stop_at.at.deepest
    pub count : r.count ≡ length stop_at.at.written
    pub slice : slice₁ ≡ stop_at.at.written ++ drop (length stop_at.at.written) slice₀
    pub sound : Sound e (state_in r.core memory₁)
    pub rises : before ≤ r.spent
    pub peak-high : r.peak ≤ e.parameters.s
