-- A step keeps what refusal 15 asks of a record and the memory, and so does a fresh state. Assumes nothing.
use Prim.Native.Nat.{ℕ, suc, ◌+◌, ◌≤◌, ◌<◌}
use mathlib.Core.Path.{◌≡◌, ◌∙◌}
use mathlib.Core.Bool.{Bool, true, false, beq}
use mathlib.Core.List.{List, [], ◌∷◌}
use mathlib.Core.Option.{Option, none, some}
use native.Mathlib.Nat.{le_refl}
use native.Mathlib.Omega.{arith}
use lib.Dec.{eqb}
use lib.IntN.{ℤ, pos, nat_abs, suc_ℤ, pred_ℤ, ◌-ℤ◌}
use lib.ListN.{length, get_or, set, drop, length-drop, length-set, length-replicate}
use lib.Signed.{mag, le_z}
use borrow.Author.Tests.{eqb-true}
use Rattle.model.specs.Parameters.{Fit, limit, in_range, eq_z, is_boolean, is_true}
use Rattle.model.specs.Words.{Cell, is_empty, kind_of, register_kind, direct_kind, number_kind, content_of, iar_number, ircr_number, shr_number, number_of}
use Rattle.model.specs.Numbers.{is_blank, number}
use Rattle.model.specs.Arithmetic.{Answer, value, code}
use Rattle.model.specs.Instructions.{Operation, clear_registers, clear_cells, dump_registers, dump_cells, inputs, outputs, pushes, pops, skips, idles, writes, writes_both, jumps, jumps_on}
use Rattle.model.specs.Images.{image_fits}
use Rattle.model.specs.Machine.{running}
use Rattle.model.specs.Step.{Environment, State, fresh_state, with_iar, with_ircr, with_shr, with_place, with_registers, with_cells, register_value, value_of, store, argument_at, Effect, succeeds, fails, next, stores, stores_both, jump_to, push, pop, blanks_of, token_of, input_number, input_answer, input, execute, settled, current_cell, current_operation, state_status, step}
use Rattle.model.specs.Calls.{all_in_range}
use Rattle.model.proofs.Fits.{by_cond, Limits, limits, limit-low}
use Rattle.model.proofs.Cells.{cell-fits, Readable, CellReadable, cell-readable}
use Rattle.model.proofs.Ranges.{range-mag, mag-range, Good, WritesRange, row-range, get_d-range, set-range, replicate-range}
use Rattle.model.proofs.Stack.{raised-low, raised-high, lowered-high, lowered-low, head-mag, heads}
use Rattle.std.proofs.Common.{rules}

abbrev pub limit_of : Environment → ℕ
limit_of e = limit e.parameters.k

-- What 15 asks of a state, and the lengths of the memory.
pub record Sound (e : Environment) (s : State) : Type 0 where
  pub iar : s.iar ≤ e.parameters.t
  pub ircr : s.ircr ≤ 3
  pub low : le_z (pos e.parameters.b -ℤ pos 1) s.shr ≡ true
  pub high : le_z s.shr (pos e.parameters.s -ℤ pos 1) ≡ true
  pub place : s.place ≤ length e.input
  pub registers : all_in_range (limit_of e) s.registers ≡ true
  pub cells : all_in_range (limit_of e) s.cells ≡ true
  pub register-count : length s.registers ≡ e.parameters.n
  pub cell-count : length s.cells ≡ e.parameters.s

-- A sound state that is at a cell.
record Going (e : Environment) (s : State) : Type 0 where
  sound : Sound e s
  within : s.iar < e.parameters.t

-- READING: what a cell that fits reads of a sound state is in range.
module _ (e : Environment) (l : Limits e.parameters) where
  one : 1 ≤ limit_of e
  one = omega (arith, limit-low l.k-low)

  register-mag : (s : State) → Sound e s → (r : ℕ) → mag (register_value s r) < limit_of e
  unfolding register_value
  register-mag s h r =
      by_cond (λ z. mag z < limit_of e) (eqb r iar_number) (pos s.iar) _ (λ q. omega (arith, h.iar, l.t-value, one))
      (λ q. by_cond (λ z. mag z < limit_of e) (eqb r ircr_number) (pos s.ircr) _ (λ q. omega (arith, h.ircr, limit-low l.k-low))
      (λ q. by_cond (λ z. mag z < limit_of e) (eqb r shr_number) s.shr (get_or s.registers r (pos 0))
      (λ q. omega (arith, head-mag e.parameters.b e.parameters.s s.shr h.low h.high, l.s-value, one))
      (λ q. get_d-range (limit_of e) s.registers r one h.registers)))

  pub value-mag : (s : State) → Sound e s → (w : ℕ) → Readable e.parameters w → mag (value_of s w) < limit_of e
  unfolding value_of
  value-mag s h w r =
      by_cond (λ z. mag z < limit_of e) (eqb (kind_of w) register_kind) (register_value s (content_of w)) _ (λ q. register-mag s h (content_of w))
      (λ q. by_cond (λ z. mag z < limit_of e) (eqb (kind_of w) direct_kind) (get_or s.cells (content_of w) (pos 0)) _
      (λ q. get_d-range (limit_of e) s.cells (content_of w) one h.cells)
      (λ q. by_cond (λ z. mag z < limit_of e) (eqb (kind_of w) number_kind) (number_of (content_of w)) (pos 0)
      (λ q. range-mag (limit_of e) (number_of (content_of w)) one (r (eqb-true (kind_of w) number_kind q)))
      (λ q. one)))

-- CHANGING one thing of a sound state. `search` takes all else from h.
module _ {e : Environment} {s : State} (h : Sound e s) where
  iar-sound : (i : ℕ) → i ≤ e.parameters.t → Sound e (with_iar i s)
  iar-sound i k = search

  ircr-sound : (i : ℕ) → i ≤ 3 → Sound e (with_ircr i s)
  ircr-sound i k = search

  shr-sound : (z : ℤ) → le_z (pos e.parameters.b -ℤ pos 1) z ≡ true → le_z z (pos e.parameters.s -ℤ pos 1) ≡ true →
      Sound e (with_shr z s)
  shr-sound z j k = search

  place-sound : (i : ℕ) → i ≤ length e.input → Sound e (with_place i s)
  place-sound i k = search

  registers-sound : (zs : List ℤ) → all_in_range (limit_of e) zs ≡ true → length zs ≡ e.parameters.n → Sound e (with_registers zs s)
  registers-sound zs j k = search

  cells-sound : (zs : List ℤ) → all_in_range (limit_of e) zs ≡ true → length zs ≡ e.parameters.s → Sound e (with_cells zs s)
  cells-sound zs j k = search

-- A register or a data cell is set to a value in range.
module _ {e : Environment} (l : Limits e.parameters) {s : State} (h : Sound e s) where
  set_register : (i : ℕ) (v : ℤ) → mag v < limit_of e → Sound e (with_registers (set s.registers i v) s)
  set_register i v k =
      registers-sound h (set s.registers i v)
      (set-range (limit_of e) s.registers i v (mag-range (limit_of e) v (one e l) k) h.registers)
      (length-set s.registers i v ∙ h.register-count)

  set-cell : (i : ℕ) (v : ℤ) → mag v < limit_of e → Sound e (with_cells (set s.cells i v) s)
  set-cell i v k =
      cells-sound h (set s.cells i v)
      (set-range (limit_of e) s.cells i v (mag-range (limit_of e) v (one e l) k) h.cells)
      (length-set s.cells i v ∙ h.cell-count)

-- EFFECTS: a state that is sound, or a code that is at most 3.
abbrev Preserves : Environment → Effect → Type 0
Preserves e (succeeds s) = Sound e s
Preserves e (fails k) = k ≤ 3

settled-sound : (e : Environment) (s : State) → Sound e s → (f : Effect) → Preserves e f → Sound e (settled s f)
settled-sound e s h (succeeds s') k = ircr-sound k 0 (omega arith)
settled-sound e s h (fails c) k = ircr-sound h c k

-- IN: the place never passes the end of the input.
blanks_le : (bs : List ℕ) → blanks_of bs ≤ length bs
unfolding blanks_of
blanks_le [] = le_refl 0
blanks_le (b ∷ bs) = go (is_blank b) (blanks_le bs)
  where
    go : (t : Bool) → blanks_of bs ≤ length bs → (elim t as (λ x. ℕ) [ true ↦ blanks_of bs + 1 | false ↦ 0 ]) ≤ suc (length bs)
    go true h = omega arith
    go false h = omega arith

token_le : (bs : List ℕ) → length (token_of bs) ≤ length bs
unfolding token_of
token_le [] = le_refl 0
token_le (b ∷ bs) = go (is_blank b) (token_le bs)
  where
    go : (t : Bool) → length (token_of bs) ≤ length bs →
        length {A = ℕ} (elim t as (λ x. List ℕ) [ true ↦ [] | false ↦ b ∷ token_of bs ]) ≤ suc (length bs)
    go true h = omega arith
    go false h = omega arith

place_le : (bs : List ℕ) (i : ℕ) → i ≤ length bs →
    i + blanks_of (drop i bs) + length (token_of (drop (blanks_of (drop i bs)) (drop i bs))) ≤ length bs
place_le bs i h =
    let a = blanks_le (drop i bs) in
    let b = token_le (drop (blanks_of (drop i bs)) (drop i bs)) in
    let c = length-drop i bs in
    let d = length-drop (blanks_of (drop i bs)) (drop i bs) in
    omega arith

input-good : (m : ℕ) → 1 ≤ m → (token : List ℕ) → Good m (input_answer m token)
input-good m one [] = omega arith
input-good m one (b ∷ s) = go (number (b ∷ s))
  where
    go : (o : Option ℤ) → Good m (input_number m o)
    go none = omega arith
    go (some z) = by_cond (Good m) (in_range m z) (value z) (code 2) (range-mag m z one) (λ h. omega arith)

-- EACH CLASS
module _ (e : Environment) (l : Limits e.parameters) (s : State) (g : Going e s) where
  store-going : (w : ℕ) (v : ℤ) → mag v < limit_of e → Going e (store w v s)
  unfolding store
  store-going w v h =
      by_cond (Going e) (eqb (kind_of w) register_kind) _ _ (λ q. record { sound = set_register l g.sound (content_of w) v h; within = g.within })
      (λ q. by_cond (Going e) (eqb (kind_of w) direct_kind) _ _ (λ q. record { sound = set-cell l g.sound (content_of w) v h; within = g.within }) (λ q. g))

  next_preserves : Preserves e (next s)
  next_preserves = iar-sound g.sound (s.iar + 1) (omega arith)

  jump_preserves : (z : ℤ) → Preserves e (jump_to e z s)
  unfolding jump_to
  jump_preserves z = search rules

module _ (e : Environment) (l : Limits e.parameters) (s : State) (g : Going e s) where
  stores_preserves : (w : ℕ) (a : Answer) → Good (limit_of e) a → Preserves e (stores w s a)
  stores_preserves w (value v) h = next_preserves e l (store w v s) (store-going e l s g w v h)
  stores_preserves w (code k) h = h.1

  stores_both_preserves : (w u : ℕ) (a : Answer) (z : ℤ) → Good (limit_of e) a → mag z < limit_of e → Preserves e (stores_both w u s a z)
  stores_both_preserves w u (value v) z h k =
      let stored = store-going e l s g w v h in
      next_preserves e l (store u z (store w v s)) (store-going e l (store w v s) stored u z k)
  stores_both_preserves w u (code c) z h k = h.1

  push_preserves : (w : ℕ) → Readable e.parameters w → Preserves e (push e.parameters w s)
  unfolding push
  push_preserves w r = by_cond (Preserves e) (eq_z (suc_ℤ s.shr) (pos e.parameters.s)) _ _ (λ h. omega arith) (λ h. go (sound h))
    where
      raised : State
      raised = with_shr (suc_ℤ s.shr) s

      sound : eq_z (suc_ℤ s.shr) (pos e.parameters.s) ≡ false → Sound e raised
      sound h =
          shr-sound g.sound (suc_ℤ s.shr) (raised-low (pos e.parameters.b -ℤ pos 1) s.shr g.sound.low)
          (raised-high e.parameters.s s.shr g.sound.high h)

      go : Sound e raised → Preserves e (next (with_cells (set s.cells (nat_abs (suc_ℤ s.shr)) (value_of raised w)) raised))
      go h =
          next_preserves e l _
          (record { sound = set-cell l h (nat_abs (suc_ℤ s.shr)) (value_of raised w) (value-mag e l raised h w r); within = g.within })

  pop_preserves : (w : ℕ) → Preserves e (pop e.parameters w s)
  unfolding pop
  pop_preserves w =
      by_cond (Preserves e) (eq_z s.shr (pos e.parameters.b -ℤ pos 1)) _ _ (λ h. omega arith)
      (λ h. go (store-going e l s g w v (get_d-range (limit_of e) s.cells (nat_abs s.shr) (one e l) g.sound.cells)) h)
    where
      v : ℤ
      v = get_or s.cells (nat_abs s.shr) (pos 0)

      go : Going e (store w v s) → eq_z s.shr (pos e.parameters.b -ℤ pos 1) ≡ false →
          Preserves e (next (with_shr (pred_ℤ s.shr) (store w v s)))
      go k h =
          let j = lowered-low (pos e.parameters.b -ℤ pos 1) s.shr g.sound.low h in
          let i = lowered-high s.shr (pos e.parameters.s -ℤ pos 1) g.sound.high in
          next_preserves e l _ (record { sound = shr-sound k.sound (pred_ℤ s.shr) j i; within = k.within })

module _ (e : Environment) (l : Limits e.parameters) (s : State) (g : Going e s) where
  input_preserves : (w : ℕ) → Preserves e (input e w s)
  unfolding input
  input_preserves w =
      let rest = drop s.place e.input in
      let token = token_of (drop (blanks_of rest) rest) in
      let moved = place-sound g.sound _ (place_le e.input s.place g.sound.place) in
      stores_preserves e l _ (record { sound = moved; within = g.within }) w (input_answer (limit_of e) token)
      (input-good (limit_of e) (one e l) token)

  execute_preserves : (op : Operation) (c : Cell) → WritesRange (limit_of e) op → CellReadable e.parameters c → Preserves e (execute e op c s)
  unfolding execute
  execute_preserves clear_registers c k r =
      let zeros = replicate-range (limit_of e) e.parameters.n (one e l) in
      let count = length-replicate e.parameters.n (pos 0) in
      next_preserves e l _ (record { sound = registers-sound g.sound _ zeros count; within = g.within })
  execute_preserves clear_cells c k r =
      let zeros = replicate-range (limit_of e) e.parameters.s (one e l) in
      let count = length-replicate e.parameters.s (pos 0) in
      next_preserves e l _ (record { sound = cells-sound g.sound _ zeros count; within = g.within })
  execute_preserves dump_registers c k r = next_preserves e l s g
  execute_preserves dump_cells c k r = next_preserves e l s g
  execute_preserves inputs c k r = input_preserves c.first
  execute_preserves outputs c k r = next_preserves e l s g
  execute_preserves pushes c k r = push_preserves e l s g c.first r.first
  execute_preserves pops c k r = pop_preserves e l s g c.first
  execute_preserves skips c k r = jump_preserves e l s g _
  execute_preserves idles c k r = next_preserves e l s g
  execute_preserves (writes to f) c k r =
      let x = value-mag e l s g.sound c.first r.first in
      let y = value-mag e l s g.sound c.second r.second in
      stores_preserves e l s g (argument_at to c) (f (limit_of e) (value_of s c.first) (value_of s c.second))
      (k (value_of s c.first) (value_of s c.second) x y)
  execute_preserves (writes_both f h) c k r =
      let x = value-mag e l s g.sound c.first r.first in
      let y = value-mag e l s g.sound c.second r.second in
      let good = k (value_of s c.first) (value_of s c.second) x y in
      stores_both_preserves e l s g c.third c.first (f (limit_of e) (value_of s c.first) (value_of s c.second))
      (h (value_of s c.first) (value_of s c.second)) good.0 good.1
  execute_preserves (jumps test) c k r =
      by_cond (Preserves e) (test (value_of s c.second) (value_of s c.third)) _ _ (λ h. jump_preserves e l s g (value_of s c.first))
      (λ h. next_preserves e l s g)
  execute_preserves (jumps_on b) c k r =
      by_cond (Preserves e) (is_boolean (value_of s c.second)) _ _
      (λ h. by_cond (Preserves e) (beq (is_true (value_of s c.second)) b) _ _ (λ h. jump_preserves e l s g (value_of s c.first))
      (λ h. next_preserves e l s g)) (λ h. omega arith)

-- A state that runs: IRCR is 0, IAR is not T, and its cell is not empty.
pub record Running (e : Environment) (s : State) : Type 0 where
  pub ircr : s.ircr ≡ 0
  pub iar : ¬ (s.iar ≡ e.parameters.t)
  pub cell : is_empty (current_cell e s) ≡ false

pub is_running : (e : Environment) (s : State) → state_status e s ≡ running → Running e s
unfolding state_status
is_running e s h = search rules

pub step_keeps : (e : Environment) → Fit e.parameters → image_fits e.parameters e.image ≡ true → (s : State) → Sound e s →
    state_status e s ≡ running → Sound e (step e s)
unfolding step
step_keeps e f i s h r =
    let l = limits e.parameters f in
    let u = is_running e s r in
    let w : s.iar < e.parameters.t = omega (arith, h.iar, u.iar) in
    let c = cell-fits e.parameters e.parameters.t e.image s.iar i w u.cell in
    settled-sound e s h (execute e (current_operation e s) (current_cell e s) s)
    (execute_preserves e l s (record { sound = h; within = w }) (current_operation e s) (current_cell e s)
    (row-range e.parameters.k (current_cell e s).head l.k-low) (cell-readable e.parameters (current_cell e s) c))

pub fresh-sound : (e : Environment) → Fit e.parameters → Sound e (fresh_state e.parameters)
fresh-sound e f =
    let l = limits e.parameters f in
    record {
      iar = omega arith;
      ircr = omega arith;
      low = heads e.parameters.b e.parameters.b (le_refl e.parameters.b);
      high = heads e.parameters.b e.parameters.s l.b-high;
      place = omega arith;
      registers = replicate-range (limit_of e) e.parameters.n (one e l);
      cells = replicate-range (limit_of e) e.parameters.s (one e l);
      register-count = length-replicate e.parameters.n (pos 0);
      cell-count = length-replicate e.parameters.s (pos 0);
    }
