-- Plans: what a step comes to, and what that does to the registers, the data cells and the output.
use Rattle.std.specs.Prelude.{ℕ, ◌+◌, ◌-◌, ◌≤◌, ◌≡◌, Bool, ◌&&◌, cond, List, [], ◌∷◌, eqb, ltb, ℤ, pos, nat_abs, length, get_or, set, drop, replicate}
use Rattle.std.specs.Int.Signed.{non_neg}
use Rattle.model.specs.Arithmetic.{Answer, value, code}
use Rattle.model.specs.Parameters.{is_boolean}
use Rattle.model.specs.Step.{State, with_ircr, blanks_of, token_of, input_answer}
use Rattle.model.specs.Words.{kind_of, content_of, word_of, register_kind, direct_kind, shr_number}
use Rattle.operands.specs.Cores.{state_of}
use Rattle.operands.specs.declared.Core.{Core}
use Rattle.plans.specs.declared.Plan.{Plan}

-- WHERE A PLAN'S VALUE GOES, beside the words of registers and data cells: nowhere, or the number of CLEAR_REG, CLEAR_DATA_MEM, DUMP_REG,
-- DUMP_DATA_MEM or OUT. Every word of a register or data cell is greater.
abbrev pub nowhere : ℕ
nowhere = 0

abbrev pub all_registers : ℕ
all_registers = 1

abbrev pub all_cells : ℕ
all_cells = 2

abbrev pub registers_out : ℕ
registers_out = 3

abbrev pub cells_out : ℕ
cells_out = 4

abbrev pub value_out : ℕ
value_out = 6

-- WHAT A PLAN DOES
-- The registers, and the data cells, after a value was written to what a word names.
abbrev pub register_written : (to : ℕ) → ℤ → List ℤ → List ℤ
register_written to v rs = cond (eqb (kind_of to) register_kind) (set rs (content_of to) v) rs

abbrev pub cell_written : (to : ℕ) → ℤ → List ℤ → List ℤ
cell_written to v cs = cond (eqb (kind_of to) direct_kind) (set cs (content_of to) v) cs

-- The same after the first value: cleared by CLEAR_REG or CLEAR_DATA_MEM, or with the value written.
abbrev pub registers_first : (to : ℕ) → ℤ → List ℤ → List ℤ
registers_first to v rs = cond (eqb to all_registers) (replicate (length rs) (pos 0)) (register_written to v rs)

abbrev pub cells_first : (to : ℕ) → ℤ → List ℤ → List ℤ
cells_first to v cs = cond (eqb to all_cells) (replicate (length cs) (pos 0)) (cell_written to v cs)

-- After the plan: the second value is written behind the first.
abbrev pub registers_after : Plan → List ℤ → List ℤ
registers_after p rs = register_written p.second_to p.second_value (registers_first p.to p.value rs)

abbrev pub cells_after : Plan → List ℤ → List ℤ
cells_after p cs = cell_written p.second_to p.second_value (cells_first p.to p.value cs)

-- Only a plan whose first value goes to a word has a second one.
abbrev pub Paired : Plan → Type 0
Paired p = p.to ≤ value_out → p.second_to ≡ nowhere

-- The values that it writes to the output: those of DUMP_REG, DUMP_DATA_MEM and OUT.
abbrev pub values_of : (to : ℕ) → ℤ → (registers cells : List ℤ) → List ℤ
values_of to v rs cs = cond (eqb to registers_out) rs (cond (eqb to cells_out) cs (cond (eqb to value_out) (v ∷ []) []))

-- The state after it, from where the machine stands: "With another code it sets IRCR and changes nothing else".
unfoldable pub planned : Core → Plan → (registers cells : List ℤ) → State
planned c p rs cs =
    cond (eqb p.next.ircr 0)
    (state_of p.next (registers_after p rs) (cells_after p cs))
    (with_ircr p.next.ircr (state_of c rs cs))

-- PLANS
-- One with a single value.
abbrev pub single : (to : ℕ) → ℤ → (next : Core) → Plan
single to v next = record { value = v; to = to; second_value = pos 0; second_to = nowhere; next = next }

-- The machine with IAR raised, and a code in IRCR.
abbrev pub raised : (code : ℕ) → Core → Core
raised k c = record { iar = c.iar + 1; ircr = k; top = c.top; place = c.place }

-- "With code 0 it sets IRCR to 0 and raises IAR by one"; a value goes somewhere,
unfoldable pub written_plan : (to : ℕ) → ℤ → Core → Plan
written_plan to v c = single to v (raised 0 c)

-- or nothing does.
abbrev pub kept_plan : Core → Plan
kept_plan c = written_plan nowhere (pos 0) c

-- A code is set.
unfoldable pub failed_plan : ℕ → Core → Plan
failed_plan k c = single nowhere (pos 0) (record { iar = c.iar; ircr = k; top = c.top; place = c.place })

-- A value or a return code, as the code stores it: of a plan with a code nothing else counts, so that IAR is raised either way,
abbrev pub computed_plan : (to : ℕ) → Answer → Core → Plan
computed_plan to (value v) c = written_plan to v c
computed_plan to (code k) c = single to (pos 0) (raised k c)

-- the same with a second value, both 0 where there is a code,
abbrev pub paired_plan : (to second_to : ℕ) → Answer → ℤ → Core → Plan
paired_plan to u (value v) z c = record { value = v; to = to; second_value = z; second_to = u; next = raised 0 c }
paired_plan to u (code k) z c = record { value = pos 0; to = to; second_value = pos 0; second_to = u; next = raised k c }

-- and as the definitions have it, with the machine at `moved` where it succeeds.
abbrev pub answered_plan : (to : ℕ) (moved c : Core) → Answer → Plan
answered_plan to moved c (value v) = written_plan to v moved
answered_plan to moved c (code k) = failed_plan k c

-- "Valid targets are 0..T-1".
unfoldable pub jump_plan : (t : ℕ) → ℤ → Core → Plan
jump_plan t z c =
    cond (non_neg z && ltb (nat_abs z) t)
    (single nowhere (pos 0) (record { iar = nat_abs z; ircr = 0; top = c.top; place = c.place }))
    (failed_plan 1 c)

-- "An untaken jump never fails."
abbrev pub taken_plan : Bool → (t : ℕ) → ℤ → Core → Plan
taken_plan b t z c = cond b (jump_plan t z c) (kept_plan c)

-- "JMPT and JMPF test for a Boolean (code 2) before the target (code 1)."
abbrev pub boolean_plan : ℤ → Bool → (t : ℕ) → ℤ → Core → Plan
boolean_plan y b t z c = cond (is_boolean y) (taken_plan b t z c) (failed_plan 2 c)

-- A core with another top, or another place.
abbrev pub with_top : ℕ → Core → Core
with_top n c = record { iar = c.iar; ircr = c.ircr; top = n; place = c.place }

abbrev pub moved_to : ℕ → Core → Core
moved_to n c = record { iar = c.iar; ircr = c.ircr; top = c.top; place = n }

-- "it raises SHR first, so PUSH SHR pushes the raised value. Code 1 if the raised SHR is S": the raised SHR is top.
unfoldable pub push_plan : (w : ℕ) → ℤ → (s : ℕ) → Core → Plan
push_plan w v s c =
    cond (eqb c.top s) (failed_plan 1 c)
    (written_plan (word_of direct_kind c.top) (cond (eqb w (word_of register_kind shr_number)) (pos c.top) v) (with_top (c.top + 1) c))

-- "POP has code 1 if SHR = B-1": the stack's head is the cell at SHR, which is top - 1.
unfoldable pub pop_plan : (w b : ℕ) → Core → List ℤ → Plan
pop_plan w b c cs = cond (eqb c.top b) (failed_plan 1 c) (written_plan w (get_or cs (c.top - 1) (pos 0)) (with_top (c.top - 1) c))

-- "The input place becomes the first byte after the number."
unfoldable pub input_plan : (w m : ℕ) → Core → List ℕ → Plan
input_plan w m c input =
    let rest = drop c.place input in
    let token = token_of (drop (blanks_of rest) rest) in
    answered_plan w (moved_to (c.place + blanks_of rest + length token) c) c (input_answer m token)
