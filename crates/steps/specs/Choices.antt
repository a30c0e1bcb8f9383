-- The plan of each class of operation.
use Rattle.std.specs.Prelude.{ℕ, ◌+◌, ◌≤◌, List, ◌≡◌, ℤ, pos, length}
use Rattle.std.specs.Bool.{beq}
use Rattle.model.specs.Instructions.{Operation, clear_registers, clear_cells, dump_registers, dump_cells, inputs, outputs, pushes, pops, skips, idles, writes, writes_both, jumps, jumps_on, instruction_count}
use Rattle.model.specs.Parameters.{limit, is_true}
use Rattle.model.specs.Step.{value_of, argument_at}
use Rattle.model.specs.Words.{Cell}
use Rattle.model.specs.declared.Parameters.{Parameters}
use Rattle.bounds.specs.Bounds.{IsLimit, Within}
use Rattle.operands.specs.Cores.{state_of, Bounded}
use Rattle.operands.specs.declared.Core.{Core}
use Rattle.plans.specs.Plans.{all_registers, all_cells, registers_out, cells_out, value_out, written_plan, kept_plan, computed_plan, paired_plan, jump_plan, taken_plan, boolean_plan, push_plan, pop_plan, input_plan}
use Rattle.plans.specs.declared.Plan.{Plan}

module _ (p : Parameters) (input : List ℕ) (at : Core) (registers cells : List ℤ) where
  -- As `execute` of model has them: x and y are the values of the first two arguments.
  abbrev pub plan_of : Operation → Cell → (x y : ℤ) → Plan
  plan_of clear_registers c x y = written_plan all_registers (pos 0) at
  plan_of clear_cells c x y = written_plan all_cells (pos 0) at
  plan_of dump_registers c x y = written_plan registers_out (pos 0) at
  plan_of dump_cells c x y = written_plan cells_out (pos 0) at
  plan_of inputs c x y = input_plan c.first (limit p.k) at input
  plan_of outputs c x y = written_plan value_out x at
  plan_of pushes c x y = push_plan c.first x p.s at
  plan_of pops c x y = pop_plan c.first p.b at cells
  plan_of skips c x y = jump_plan p.t (pos (at.iar + 2)) at
  plan_of idles c x y = kept_plan at
  plan_of (writes to f) c x y = computed_plan (argument_at to c) (f (limit p.k) x y) at
  plan_of (writes_both f g) c x y = paired_plan c.third c.first (f (limit p.k) x y) (g x y) at
  plan_of (jumps test) c x y = taken_plan (test y (value_of (state_of at registers cells) c.third)) p.t x at
  plan_of (jumps_on b) c x y = boolean_plan y (beq (is_true y) b) p.t x at

-- What is known before a plan: an instruction's number, values in the range, and where the machine stands.
pub record Choosable (number : ℕ) (p : Parameters) (m : ℕ) (x y : ℤ) (at : Core) (registers cells : List ℤ) (input : List ℕ) : Type 0 where
  pub from : 1 ≤ number
  pub to : number ≤ instruction_count
  pub limit_is : m ≡ limit p.k
  pub is-limit : IsLimit m
  pub first : Within m x
  pub second : Within m y
  pub bounded : Bounded at registers
  pub low : p.b ≤ at.top
  pub high : at.top ≤ length cells
  pub place : at.place ≤ length input
