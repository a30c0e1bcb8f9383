-- Document 01, "Instructions" and "Grants and their endings": the TAK machine, its states and its step.
use Rattle.std.specs.Prelude.{ℕ, ◌+◌, true, false, ◌&&◌, ◌||◌, cond, List, [], ◌∷◌, eqb, ltb, ℤ, pos, nat_abs, ◌-ℤ◌, length, get_or, set, drop, replicate}
use Rattle.std.specs.Bool.{beq}
use Rattle.std.proofs.Math.Option.{Option, none, some}
use Rattle.std.proofs.Math.IntN.{suc_ℤ, pred_ℤ}
use Rattle.std.specs.Int.Signed.{non_neg}
use Rattle.model.specs.declared.Parameters.{Parameters}
use Rattle.model.specs.Parameters.{limit, in_range, eq_z, is_boolean, is_true}
use Rattle.model.specs.Words.{Cell, cell_at, is_empty, kind_of, register_kind, direct_kind, number_kind, content_of, iar_number, ircr_number, shr_number, number_of}
use Rattle.model.specs.Numbers.{is_blank, number}
use Rattle.model.specs.Arithmetic.{Answer, value, code}
use Rattle.model.specs.Instructions.{Position, first, second, third, Operation, clear_registers, clear_cells, dump_registers, dump_cells, inputs, outputs, pushes, pops, skips, idles, writes, writes_both, jumps, jumps_on, row_of, cost_of}
use Rattle.model.specs.Machine.{Machine, Status, running}

-- What stays the same throughout a run.
pub record Environment : Type 0 where
  pub parameters : Parameters
  pub image : List ℕ
  pub input : List ℕ

-- The environment of these.
abbrev pub environment_of : Parameters → (image input : List ℕ) → Environment
environment_of p image input = record { parameters = p; image = image; input = input }

-- The same image and input under other parameters.
abbrev pub with_parameters : Parameters → Environment → Environment
with_parameters p e = environment_of p e.image e.input

-- "Memory means the registers and the data cells."
pub record Memory : Type 0 where
  pub registers : List ℤ
  pub cells : List ℤ

-- The memory of two slices.
abbrev pub as_memory : (registers cells : List ℤ) → Memory
as_memory registers cells = record { registers = registers; cells = cells }

-- "The machine of demand 3 has IAR, IRCR, SHR, input place, registers, data"; the values output so far are its run's. `cells` are the data cells.
pub record State : Type 0 where
  pub iar : ℕ
  pub ircr : ℕ
  pub shr : ℤ
  pub place : ℕ
  pub registers : List ℤ
  pub cells : List ℤ

-- "Start makes the fresh record (all 0 but SHR = B-1) .. and zeroes registers and data."
abbrev pub fresh_state : Parameters → State
fresh_state p =
    record { iar = 0; ircr = 0; shr = pos p.b -ℤ pos 1; place = 0; registers = replicate p.n (pos 0); cells = replicate p.s (pos 0) }

-- A state with one thing changed: IAR, IRCR, SHR, input place, registers, data cells.
abbrev pub with_iar : ℕ → State → State
with_iar i s = record { iar = i; ircr = s.ircr; shr = s.shr; place = s.place; registers = s.registers; cells = s.cells }

abbrev pub with_ircr : ℕ → State → State
with_ircr k s = record { iar = s.iar; ircr = k; shr = s.shr; place = s.place; registers = s.registers; cells = s.cells }

abbrev pub with_shr : ℤ → State → State
with_shr z s = record { iar = s.iar; ircr = s.ircr; shr = z; place = s.place; registers = s.registers; cells = s.cells }

abbrev pub with_place : ℕ → State → State
with_place i s = record { iar = s.iar; ircr = s.ircr; shr = s.shr; place = i; registers = s.registers; cells = s.cells }

abbrev pub with_registers : List ℤ → State → State
with_registers xs s = record { iar = s.iar; ircr = s.ircr; shr = s.shr; place = s.place; registers = xs; cells = s.cells }

abbrev pub with_cells : List ℤ → State → State
with_cells xs s = record { iar = s.iar; ircr = s.ircr; shr = s.shr; place = s.place; registers = s.registers; cells = xs }

-- "IAR 256, IRCR 257, SHR 258"; "Reads of IAR give the current cell's index."
unfoldable pub register_value : State → ℕ → ℤ
register_value s r =
    cond (eqb r iar_number) (pos s.iar)
    (cond (eqb r ircr_number) (pos s.ircr)
    (cond (eqb r shr_number) s.shr (get_or s.registers r (pos 0))))

-- The value of an argument, by the kind of its word.
unfoldable pub value_of : State → ℕ → ℤ
value_of s w =
    cond (eqb (kind_of w) register_kind) (register_value s (content_of w))
    (cond (eqb (kind_of w) direct_kind) (get_or s.cells (content_of w) (pos 0))
    (cond (eqb (kind_of w) number_kind) (number_of (content_of w)) (pos 0)))

-- A value is written to the register or data cell that an argument names.
unfoldable pub store : ℕ → ℤ → State → State
store w v s =
    cond (eqb (kind_of w) register_kind) (with_registers (set s.registers (content_of w) v) s)
    (cond (eqb (kind_of w) direct_kind) (with_cells (set s.cells (content_of w) v) s) s)

-- The word of the argument that is written.
abbrev pub argument_at : Position → Cell → ℕ
argument_at first c = c.first
argument_at second c = c.second
argument_at third c = c.third

-- What an instruction comes to: the state after it, or a return code other than 0.
pub data Effect : Type 0 where
  succeeds : State → Effect
  fails : ℕ → Effect

-- "With code 0 it .. raises IAR by one".
abbrev pub next : State → Effect
next s = succeeds (with_iar (s.iar + 1) s)

-- A value goes to its target; a return code changes nothing.
abbrev pub stores : ℕ → State → Answer → Effect
stores w s (value v) = next (store w v s)
stores w s (code k) = fails k

-- Two values go to their targets, after all sources were read; a return code changes nothing.
abbrev pub stores_both : (w u : ℕ) → State → Answer → ℤ → Effect
stores_both w u s (value v) z = next (store u z (store w v s))
stores_both w u s (code k) z = fails k

-- "Valid targets are 0..T-1, also of empty cells": code 1 (003: wrong jump target).
unfoldable pub jump_to : Environment → ℤ → State → Effect
jump_to e z s = cond (non_neg z && ltb (nat_abs z) e.parameters.t) (succeeds (with_iar (nat_abs z) s)) (fails 1)

-- PUSH "raises SHR first, so PUSH SHR pushes the raised value. Code 1 if the raised SHR is S."
unfoldable pub push : Parameters → ℕ → State → Effect
push p w s =
    let raised = with_shr (suc_ℤ s.shr) s in
    cond (eq_z raised.shr (pos p.s)) (fails 1) (next (with_cells (set s.cells (nat_abs raised.shr) (value_of raised w)) raised))

-- "POP has code 1 if SHR = B-1." 003: the stack head is read, stored, and SHR decreased.
unfoldable pub pop : Parameters → ℕ → State → Effect
pop p w s =
    cond (eq_z s.shr (pos p.b -ℤ pos 1)) (fails 1) (next (with_shr (pred_ℤ s.shr) (store w (get_or s.cells (nat_abs s.shr) (pos 0)) s)))

-- "IN passes over blanks"
unfoldable pub blanks_of : List ℕ → ℕ
blanks_of [] = 0
blanks_of (b ∷ s) = elim (is_blank b) [ true ↦ blanks_of s + 1 | false ↦ 0 ]

-- "and takes bytes up to the next blank or the end."
unfoldable pub token_of : List ℕ → List ℕ
token_of [] = []
token_of (b ∷ s) = elim (is_blank b) [ true ↦ [] | false ↦ b ∷ token_of s ]

-- "Not an optional + or - followed by digits only ..: code 1. Outside the range: code 2."
abbrev pub input_number : (m : ℕ) → Option ℤ → Answer
input_number m none = code 1
input_number m (some z) = cond (in_range m z) (value z) (code 2)

-- "Nothing left: code 3."
abbrev pub input_answer : (m : ℕ) (token : List ℕ) → Answer
input_answer m [] = code 3
input_answer m (b ∷ s) = input_number m (number (b ∷ s))

-- "The input place becomes the first byte after the number."
unfoldable pub input : Environment → ℕ → State → Effect
input e w s =
    let rest = drop s.place e.input in
    let token = token_of (drop (blanks_of rest) rest) in
    stores w (with_place (s.place + blanks_of rest + length token) s) (input_answer (limit e.parameters.k) token)

-- Effects by class. "All sources are read before the target is written".
unfoldable pub execute : Environment → Operation → Cell → State → Effect
execute e clear_registers c s = next (with_registers (replicate e.parameters.n (pos 0)) s)
execute e clear_cells c s = next (with_cells (replicate e.parameters.s (pos 0)) s)
execute e dump_registers c s = next s
execute e dump_cells c s = next s
execute e inputs c s = input e c.first s
execute e outputs c s = next s
execute e pushes c s = push e.parameters c.first s
execute e pops c s = pop e.parameters c.first s
-- "SKIP at cell i has code 1 if i + 2 ≥ T."
execute e skips c s = jump_to e (pos (s.iar + 2)) s
execute e idles c s = next s
execute e (writes to f) c s = stores (argument_at to c) s (f (limit e.parameters.k) (value_of s c.first) (value_of s c.second))
execute e (writes_both f g) c s =
    let x = value_of s c.first in
    let y = value_of s c.second in
    stores_both c.third c.first s (f (limit e.parameters.k) x y) (g x y)
-- "An untaken jump never fails."
execute e (jumps test) c s = cond (test (value_of s c.second) (value_of s c.third)) (jump_to e (value_of s c.first) s) (next s)
-- "JMPT and JMPF test for a Boolean (code 2) before the target (code 1)."
execute e (jumps_on b) c s =
    cond (is_boolean (value_of s c.second))
    (cond (beq (is_true (value_of s c.second)) b) (jump_to e (value_of s c.first) s) (next s))
    (fails 2)

-- "With code 0 it sets IRCR to 0 ..; With another code it sets IRCR and changes nothing else".
abbrev pub settled : State → Effect → State
settled s (succeeds s') = with_ircr 0 s'
settled s (fails k) = with_ircr k s

-- "OUT writes 1 value, the dumps N and S, others 0."
abbrev pub written_by : Operation → Cell → State → List ℤ
written_by clear_registers c s = []
written_by clear_cells c s = []
written_by dump_registers c s = s.registers
written_by dump_cells c s = s.cells
written_by inputs c s = []
written_by outputs c s = value_of s c.first ∷ []
written_by pushes c s = []
written_by pops c s = []
written_by skips c s = []
written_by idles c s = []
written_by (writes to f) c s = []
written_by (writes_both f g) c s = []
written_by (jumps test) c s = []
written_by (jumps_on b) c s = []

module _ (e : Environment) where
  -- "A step runs the cell at IAR."
  abbrev pub current_cell : State → Cell
  current_cell s = cell_at e.image s.iar

  -- What its instruction does.
  abbrev pub current_operation : State → Operation
  current_operation s = (row_of (current_cell s).head).operation

  -- "IRCR not 0, it ends "failed"; IAR = T or an empty cell, "ended""
  unfoldable pub state_status : State → Status
  state_status s = cond (eqb s.ircr 0) (cond (eqb s.iar e.parameters.t || is_empty (current_cell s)) Status.ended running) Status.failed

  -- The cost of the step.
  unfoldable pub step_cost : State → ℕ
  step_cost s = cost_of e.parameters (current_cell s)

  -- The values that the step writes.
  unfoldable pub step_values : State → List ℤ
  step_values s = written_by (current_operation s) (current_cell s) s

  -- The step.
  unfoldable pub step : State → State
  step s = settled s (execute e (current_operation s) (current_cell s) s)

  -- Document 01's "machine of demand 3".
  abbrev pub Tak : Machine
  Tak =
      record {
        St = State;
        fresh = fresh_state e.parameters;
        status = state_status;
        shr = λ s. s.shr;
        cost = step_cost;
        values = step_values;
        step = step;
      }
