-- What a plan does is what the definition of its step says. Assumes nothing.
use Prim.Native.Nat.{ℕ, ◌+◌, ◌-◌, ◌≤◌, ◌<◌}
use mathlib.Core.Bool.{Bool, true, false, ◌&&◌, cond, beq}
use mathlib.Core.List.{List, []}
use mathlib.Core.Option.{Option, none, some}
use mathlib.Core.Path.{◌≡◌, refl}
use native.Mathlib.Omega.{arith}
use lib.Dec.{eqb, ltb}
use lib.IntN.{ℤ, pos, nat_abs, pred_ℤ, ◌-ℤ◌}
use lib.ListN.{length, get_or, set, drop}
use lib.Signed.{mag, non_neg}
use borrow.Author.Tests.{eqb-true, eqb-false, ne_eqb}
use Rattle.model.proofs.Ranges.{Good, WritesRange}
use Rattle.model.specs.Arithmetic.{Answer, value, code}
use Rattle.model.specs.Instructions.{Position, first, third, Operation, clear_registers, clear_cells, dump_registers, dump_cells, inputs, outputs, pushes, pops, skips, idles, writes, writes_both, jumps, jumps_on}
use Rattle.model.specs.Parameters.{max_cells, limit, is_boolean, is_true}
use Rattle.model.specs.Step.{Environment, State, with_iar, with_ircr, with_shr, with_place, with_registers, with_cells, register_value, value_of, store, argument_at, Effect, succeeds, fails, next, stores, stores_both, jump_to, push, pop, blanks_of, token_of, input_answer, input, execute, settled, written_by}
use Rattle.model.specs.Words.{Cell, kind_of, register_kind, direct_kind, number_kind, content_of, shr_number, number_of, word_of}
use Rattle.model.specs.declared.Parameters.{Parameters}
use Rattle.operands.specs.Cores.{state_of}
use Rattle.operands.specs.declared.Core.{Core}
use Rattle.steps.specs.Choices.{plan_of}
use Rattle.plans.specs.Plans.{nowhere, Paired, register_written, cell_written, registers_first, cells_first, single, raised, values_of, planned, written_plan, kept_plan, failed_plan, computed_plan, paired_plan, answered_plan, jump_plan, taken_plan, boolean_plan, with_top, moved_to, push_plan, pop_plan, input_plan}
use Rattle.plans.specs.declared.Plan.{Plan}
use Rattle.steps.proofs.Tops.{raised-top, top-raised, lowered-top, head_of, empty-top}

-- A word that names something: a register, a data cell or a number.
abbrev pub Named : ℕ → Type 0
Named w = 1 ≤ kind_of w

-- Where an operation writes, if to one of its words.
abbrev pub target_of : Operation → Option Position
target_of clear_registers = none
target_of clear_cells = none
target_of dump_registers = none
target_of dump_cells = none
target_of inputs = some first
target_of outputs = none
target_of pushes = none
target_of pops = some first
target_of skips = none
target_of idles = none
target_of (writes to f) = some to
target_of (writes_both f g) = some third
target_of (jumps test) = none
target_of (jumps_on b) = none

-- That word names something.
abbrev pub NamesTarget : Operation → Cell → Type 0
NamesTarget o c = (to : Position) → target_of o ≡ some to → Named (argument_at to c)

module _ (registers cells : List ℤ) where
  -- A word that names something is no instruction's number.
  registers-named : (w : ℕ) (v : ℤ) → Named w → registers_first w v registers ≡ register_written w v registers
  registers-named w v h = rw (ne_eqb w 1 (λ e. omega arith))

  cells-named : (w : ℕ) (v : ℤ) → Named w → cells_first w v cells ≡ cell_written w v cells
  cells-named w v h = rw (ne_eqb w 2 (λ e. omega arith))

  values-named : (w : ℕ) (v : ℤ) → Named w → values_of w v registers cells ≡ []
  values-named w v h = rw (ne_eqb w 3 (λ e. omega arith), ne_eqb w 4 (λ e. omega arith), ne_eqb w 6 (λ e. omega arith))

  -- From where the machine stands, a plan comes to an effect and writes the values; one that fails writes none.
  pub record Does (c : Core) (plan : Plan) (f : Effect) (out : List ℤ) : Type 0 where
    pub step : planned c plan registers cells ≡ settled (state_of c registers cells) f
    pub values : values_of plan.to plan.value registers cells ≡ out
    pub silent : ¬ (plan.next.ircr ≡ 0) → [] ≡ out
    pub paired : Paired plan

  -- A choice between two.
  cond-does : {c : Core} {p q : Plan} {f g : Effect} {out : List ℤ} (b : Bool) → (b ≡ true → Does c p f out) → (b ≡ false → Does c q g out) →
      Does c (cond b p q) (cond b f g) out
  cond-does true h k = h refl
  cond-does false h k = k refl

  -- A VALUE WRITTEN
  written_step : (c at : Core) (w : ℕ) (v : ℤ) → Named w →
      planned c (written_plan w v at) registers cells ≡ settled (state_of at registers cells) (next (store w v (state_of at registers cells)))
  unfolding planned written_plan store
  written_step c at w v h = rw (registers-named w v h, cells-named w v h) (go (eqb (kind_of w) register_kind) (eqb (kind_of w) direct_kind) refl refl)
    where
      s : State
      s = state_of at registers cells

      stored : (a b : Bool) → State
      stored a b = cond a (with_registers (set registers (content_of w) v) s) (cond b (with_cells (set cells (content_of w) v) s) s)

      go : (a b : Bool) → eqb (kind_of w) register_kind ≡ a → eqb (kind_of w) direct_kind ≡ b →
          state_of (raised 0 at)
          (cond a (set registers (content_of w) v) registers) (cond b (set cells (content_of w) v) cells)
          ≡ with_ircr 0 (with_iar ((stored a b).iar + 1) (stored a b))
      go true true d e = absurd (omega (arith, eqb-true (kind_of w) register_kind d, eqb-true (kind_of w) direct_kind e))
      go true false d e = refl
      go false true d e = refl
      go false false d e = refl

  written-does : (c at : Core) (w : ℕ) (v : ℤ) → Named w → Does c (written_plan w v at) (next (store w v (state_of at registers cells))) []
  unfolding written_plan
  written-does c at w v h = record { step = written_step c at w v h; values = values-named w v h; silent = λ n. refl; paired = λ l. refl }

  -- A CODE SET
  failed-does : (at : Core) (k : ℕ) → Does at (failed_plan k at) (fails k) []
  unfolding planned failed_plan
  failed-does at k = record { step = go (eqb k 0); values = refl; silent = λ n. refl; paired = λ l. refl }
    where
      failed : State
      failed = with_ircr k (state_of at registers cells)

      go : (b : Bool) → cond b failed failed ≡ failed
      go true = refl
      go false = refl

  -- NEITHER
  kept-does : (at : Core) → Does at (kept_plan at) (next (state_of at registers cells)) []
  unfolding planned written_plan
  kept-does at = record { step = refl; values = refl; silent = λ n. refl; paired = λ l. refl }

  -- A value or a code, with the machine moved on in the input.
  answered-does : (at : Core) (n w : ℕ) (a : Answer) → Named w →
      Does at (answered_plan w (moved_to n at) at a) (stores w (with_place n (state_of at registers cells)) a) []
  answered-does at n w (value v) h = written-does at (moved_to n at) w v h
  answered-does at n w (code k) h = failed-does at k

  -- A value or a code, as the code computes it.
  computed-does : (m : ℕ) (at : Core) (w : ℕ) (a : Answer) → Good m a → Named w →
      Does at (computed_plan w a at) (stores w (state_of at registers cells) a) []
  unfolding planned written_plan
  computed-does m at w (value v) g h = written-does at at w v h
  computed-does m at w (code k) g h = record { step = rw (ne_eqb k 0 (omega (arith, g.0))); values = values-named w _ h; silent = λ n. refl; paired = λ l. refl }

  -- Two values or a code.
  both_step : (at : Core) (w u : ℕ) (v z : ℤ) → Named w →
      planned at (paired_plan w u (value v) z at) registers cells
      ≡ settled (state_of at registers cells) (next (store u z (store w v (state_of at registers cells))))
  unfolding planned store
  both_step at w u v z h =
      rw (registers-named w v h, cells-named w v h)
      (go (eqb (kind_of w) register_kind) (eqb (kind_of w) direct_kind) (eqb (kind_of u) register_kind) (eqb (kind_of u) direct_kind) refl refl refl refl)
    where
      first : (a b : Bool) → State → State
      first a b s = cond a (with_registers (set s.registers (content_of w) v) s) (cond b (with_cells (set s.cells (content_of w) v) s) s)

      second : (a b : Bool) → State → State
      second a b s = cond a (with_registers (set s.registers (content_of u) z) s) (cond b (with_cells (set s.cells (content_of u) z) s) s)

      both : (a b c d : Bool) → State
      both a b c d = second c d (first a b (state_of at registers cells))

      go : (a b c d : Bool) → eqb (kind_of w) register_kind ≡ a → eqb (kind_of w) direct_kind ≡ b → eqb (kind_of u) register_kind ≡ c →
          eqb (kind_of u) direct_kind ≡ d →
          state_of (raised 0 at)
          (cond c (set (cond a (set registers (content_of w) v) registers) (content_of u) z) (cond a (set registers (content_of w) v) registers))
          (cond d (set (cond b (set cells (content_of w) v) cells) (content_of u) z) (cond b (set cells (content_of w) v) cells))
          ≡ with_ircr 0 (with_iar ((both a b c d).iar + 1) (both a b c d))
      go true true c d e f g h = absurd (omega (arith, eqb-true (kind_of w) register_kind e, eqb-true (kind_of w) direct_kind f))
      go a b true true e f g h = absurd (omega (arith, eqb-true (kind_of u) register_kind g, eqb-true (kind_of u) direct_kind h))
      go true false true false e f g h = refl
      go true false false true e f g h = refl
      go true false false false e f g h = refl
      go false true true false e f g h = refl
      go false true false true e f g h = refl
      go false true false false e f g h = refl
      go false false true false e f g h = refl
      go false false false true e f g h = refl
      go false false false false e f g h = refl

  both-does : (m : ℕ) (at : Core) (w u : ℕ) (a : Answer) (z : ℤ) → Good m a → Named w →
      Does at (paired_plan w u a z at) (stores_both w u (state_of at registers cells) a z) []
  unfolding planned
  both-does m at w u (value v) z g h =
      record { step = both_step at w u v z h; values = values-named w v h; silent = λ n. refl; paired = λ l. absurd (omega (arith, h)) }
  both-does m at w u (code k) z g h =
      record { step = rw (ne_eqb k 0 (omega (arith, g.0))); values = values-named w _ h; silent = λ n. refl; paired = λ l. absurd (omega (arith, h)) }

  -- JUMPS
  jump-does : (e : Environment) (at : Core) (z : ℤ) → Does at (jump_plan e.parameters.t z at) (jump_to e z (state_of at registers cells)) []
  unfolding planned jump_plan jump_to
  jump-does e at z = cond-does (non_neg z && ltb (nat_abs z) e.parameters.t) (λ h. valid) (λ h. failed-does at 1)
    where
      valid : Does at (single nowhere (pos 0) (record { iar = nat_abs z; ircr = 0; top = at.top; place = at.place }))
          (succeeds (with_iar (nat_abs z) (state_of at registers cells))) []
      valid = record { step = refl; values = refl; silent = λ n. refl; paired = λ l. refl }

  taken-does : (e : Environment) (at : Core) (z : ℤ) (b : Bool) →
      Does at (taken_plan b e.parameters.t z at) (cond b (jump_to e z (state_of at registers cells)) (next (state_of at registers cells))) []
  taken-does e at z b = cond-does b (λ h. jump-does e at z) (λ h. kept-does at)

  boolean-does : (e : Environment) (at : Core) (y z : ℤ) (b : Bool) →
      Does at (boolean_plan y b e.parameters.t z at)
      (cond (is_boolean y) (cond b (jump_to e z (state_of at registers cells)) (next (state_of at registers cells))) (fails 2)) []
  boolean-does e at y z b = cond-does (is_boolean y) (λ h. taken-does e at z b) (λ h. failed-does at 2)

  -- THE STACK. With SHR raised, every word says what it said before but SHR's own.
  raised_register : (at : Core) (z : ℤ) (r : ℕ) → ¬ (r ≡ shr_number) →
      register_value (state_of at registers cells) r ≡ register_value (with_shr z (state_of at registers cells)) r
  unfolding register_value
  raised_register at z r n = rw (ne_eqb r shr_number n)

  raised_other : (at : Core) (z : ℤ) (w : ℕ) → ¬ (w ≡ word_of register_kind shr_number) →
      value_of (state_of at registers cells) w ≡ value_of (with_shr z (state_of at registers cells)) w
  unfolding value_of
  raised_other at z w n = go (eqb (kind_of w) register_kind) refl
    where
      s : State
      s = state_of at registers cells

      rest : ℤ
      rest = cond (eqb (kind_of w) direct_kind) (get_or cells (content_of w) (pos 0)) (cond (eqb (kind_of w) number_kind) (number_of (content_of w)) (pos 0))

      go : (b : Bool) → eqb (kind_of w) register_kind ≡ b → cond b (register_value s (content_of w)) rest ≡ cond b (register_value (with_shr z s) (content_of w)) rest
      go true e = raised_register at z (content_of w) (λ q. n (omega (arith, eqb-true (kind_of w) register_kind e)))
      go false e = refl

  raised-head : (at : Core) (z : ℤ) (w : ℕ) → w ≡ word_of register_kind shr_number → z ≡ value_of (with_shr z (state_of at registers cells)) w
  unfolding value_of register_value
  raised-head at z w e = rw e

  raised-value : (at : Core) (w : ℕ) →
      cond (eqb w (word_of register_kind shr_number)) (pos at.top) (value_of (state_of at registers cells) w)
      ≡ value_of (with_shr (pos at.top) (state_of at registers cells)) w
  raised-value at w = go (eqb w (word_of register_kind shr_number)) refl
    where
      go : (b : Bool) → eqb w (word_of register_kind shr_number) ≡ b →
          cond b (pos at.top) (value_of (state_of at registers cells) w) ≡ value_of (with_shr (pos at.top) (state_of at registers cells)) w
      go true e = raised-head at (pos at.top) w (eqb-true w (word_of register_kind shr_number) e)
      go false e = raised_other at (pos at.top) w (eqb-false w (word_of register_kind shr_number) e)

  -- The word of a data cell.
  cell-does : (d : ℕ) (v : ℤ) (c at : Core) → d ≤ max_cells →
      Does c (written_plan (word_of direct_kind d) v at) (next (with_cells (set cells d v) (state_of at registers cells))) []
  unfolding store
  cell-does d v c at h =
      let k : kind_of (word_of direct_kind d) ≡ direct_kind = omega arith in
      let d-is : content_of (word_of direct_kind d) ≡ d = omega arith in
      rw (k, d-is) at (written-does c at (word_of direct_kind d) v (omega arith))

  push-does : (p : Parameters) (at : Core) (w : ℕ) → at.top ≤ max_cells →
      Does at (push_plan w (value_of (state_of at registers cells) w) p.s at) (push p w (state_of at registers cells)) []
  unfolding push push_plan
  push-does p at w k =
      rw (raised-top at.top, raised-value at w)
      (cond-does (eqb at.top p.s) (λ h. failed-does at 1)
      (λ h. rw (top-raised at.top) at (cell-does at.top (value_of (with_shr (pos at.top) (state_of at registers cells)) w) at (with_top (at.top + 1) at) k)))

  store-head : (w : ℕ) (v z : ℤ) (s : State) → store w v (with_shr z s) ≡ with_shr z (store w v s)
  unfolding store
  store-head w v z s = go (eqb (kind_of w) register_kind) (eqb (kind_of w) direct_kind)
    where
      go : (a b : Bool) →
          cond a (with_registers (set s.registers (content_of w) v) (with_shr z s)) (cond b (with_cells (set s.cells (content_of w) v) (with_shr z s)) (with_shr z s))
          ≡ with_shr z (cond a (with_registers (set s.registers (content_of w) v) s) (cond b (with_cells (set s.cells (content_of w) v) s) s))
      go true b = refl
      go false true = refl
      go false false = refl

  pop-does : (p : Parameters) (at : Core) (w : ℕ) → Named w → p.b ≤ at.top →
      Does at (pop_plan w p.b at cells) (pop p w (state_of at registers cells)) []
  unfolding pop pop_plan
  pop-does p at w n l = rw (empty-top p.b at.top) (cond-does (eqb at.top p.b) (λ e. failed-does at 1) popped)
    where
      s : State
      s = state_of at registers cells

      popped : eqb at.top p.b ≡ false →
          Does at (written_plan w (get_or cells (at.top - 1) (pos 0)) (with_top (at.top - 1) at))
          (next (with_shr (pred_ℤ s.shr) (store w (get_or cells (nat_abs s.shr) (pos 0)) s))) []
      popped e =
          let d = eqb-false at.top p.b e in
          let o : 1 ≤ at.top = omega arith in
          let v = get_or cells (at.top - 1) (pos 0) in
          rw (head_of at.top o, lowered-top at.top o)
          (rw (store-head w v (pos (at.top - 1) -ℤ pos 1) s) at (written-does at (with_top (at.top - 1) at) w v n))

  -- IN
  input-does : (e : Environment) (at : Core) (w : ℕ) → Named w →
      Does at (input_plan w (limit e.parameters.k) at e.input) (input e w (state_of at registers cells)) []
  unfolding input input_plan
  input-does e at w n =
      let rest = drop at.place e.input in
      let token = token_of (drop (blanks_of rest) rest) in
      answered-does at (at.place + blanks_of rest + length token) w (input_answer (limit e.parameters.k) token) n

-- EVERY OPERATION
module _ (e : Environment) (at : Core) (registers cells : List ℤ) where
  abbrev s : State
  s = state_of at registers cells

  abbrev m : ℕ
  m = limit e.parameters.k

  abbrev plan_at : Operation → Cell → Plan
  plan_at o c = plan_of e.parameters e.input at registers cells o c (value_of s c.first) (value_of s c.second)

  -- The counts of registers and data cells, the stack's bounds, a target that is named, values in range, and an operation that keeps to the range.
  pub record Steady (o : Operation) (c : Cell) : Type 0 where
    pub register-count : length registers ≡ e.parameters.n
    pub cell-count : length cells ≡ e.parameters.s
    pub low : e.parameters.b ≤ at.top
    pub high : at.top ≤ max_cells
    pub target : NamesTarget o c
    pub first-within : mag (value_of s c.first) < m
    pub second-within : mag (value_of s c.second) < m
    pub range : WritesRange m o

  pub plan-does : (o : Operation) (c : Cell) → Steady o c → Does registers cells at (plan_at o c) (execute e o c s) (written_by o c s)
  unfolding execute planned written_plan
  plan-does clear_registers c h = record { step = rw h.register-count; values = refl; silent = λ n. refl; paired = λ l. refl }
  plan-does clear_cells c h = record { step = rw h.cell-count; values = refl; silent = λ n. refl; paired = λ l. refl }
  plan-does dump_registers c h = record { step = refl; values = refl; silent = λ n. absurd (n refl); paired = λ l. refl }
  plan-does dump_cells c h = record { step = refl; values = refl; silent = λ n. absurd (n refl); paired = λ l. refl }
  plan-does inputs c h = input-does registers cells e at c.first (h.target first refl)
  plan-does outputs c h = record { step = refl; values = refl; silent = λ n. absurd (n refl); paired = λ l. refl }
  plan-does pushes c h = push-does registers cells e.parameters at c.first h.high
  plan-does pops c h = pop-does registers cells e.parameters at c.first (h.target first refl) h.low
  plan-does skips c h = jump-does registers cells e at (pos (at.iar + 2))
  plan-does idles c h = kept-does registers cells at
  plan-does (writes to f) c h =
      let x = value_of s c.first in
      let y = value_of s c.second in
      computed-does registers cells m at (argument_at to c) (f m x y) (h.range x y h.first-within h.second-within) (h.target to refl)
  plan-does (writes_both f g) c h =
      let x = value_of s c.first in
      let y = value_of s c.second in
      both-does registers cells m at c.third c.first (f m x y) (g x y) (h.range x y h.first-within h.second-within).0 (h.target third refl)
  plan-does (jumps test) c h = taken-does registers cells e at (value_of s c.first) (test (value_of s c.second) (value_of s c.third))
  plan-does (jumps_on b) c h =
      boolean-does registers cells e at (value_of s c.second) (value_of s c.first) (beq (is_true (value_of s c.second)) b)
