-- What the look finds, as the code comes to it. Assumes nothing.
use Prim.Native.Nat.{ℕ, ◌+◌, ◌*◌, ◌-◌, ◌≤◌, ◌<◌}
use mathlib.Core.Bool.{Bool, true, false, cond}
use mathlib.Core.List.{List}
use mathlib.Core.Path.{◌≡◌, refl, sym, ap, ◌∙◌}
use native.Mathlib.Omega.{arith}
use lib.Dec.{ltb}
use lib.IntN.{ℤ}
use lib.ListN.{length, take, drop}
use borrow.Author.Tests.{eq-eqb, ne_eqb, lt-ltb, le-ltb}
use Rattle.model.proofs.Cells.{cell-fits, empty-head}
use Rattle.model.specs.Images.{cell_fits, image_fits}
use Rattle.model.specs.Instructions.{row_of, cost_of}
use Rattle.model.specs.Machine.{Status, running, look, look_at}
use Rattle.model.specs.Step.{Environment, State, state_status, step_cost, step_values, environment_of}
use Rattle.model.specs.Words.{Cell, cell_of, cell_at, is_empty}
use Rattle.model.specs.declared.Ending.TheVariants.{Failed, Ended, Paused, OutputFull}
use Rattle.model.specs.declared.Parameters.{Parameters}
use Rattle.image.specs.Decode.{instruction_of, cell_from}
use Rattle.image.specs.declared.decode.Instruction.{Instruction}
use Rattle.operands.specs.Cores.{state_of}
use Rattle.operands.specs.declared.Core.{Core}
use Rattle.prices.proofs.PriceLaws.{written_count}
use Rattle.prices.specs.Prices.{value_count}
use Rattle.std.specs.Prelude.{Ok, Err}
use Rattle.engine.specs.Looks.{found_of, found_at}

-- THE STATUS
module _ (e : Environment) (s : State) where
  is-failed : ¬ (s.ircr ≡ 0) → state_status e s ≡ Status.failed
  unfolding state_status
  is-failed h = rw (ne_eqb s.ircr 0 h)

  at-end : s.ircr ≡ 0 → s.iar ≡ e.parameters.t → state_status e s ≡ Status.ended
  unfolding state_status
  at-end z h = rw (eq-eqb s.ircr 0 z, eq-eqb s.iar e.parameters.t h)

-- THE LOOK
module _ (e : Environment) (s : State) (allowance room : ℕ) where
  looked : {x : Status} → state_status e s ≡ x → {c v : ℕ} → step_cost e s ≡ c → length (step_values e s) ≡ v →
      {short crowded : Bool} → ltb allowance c ≡ short → ltb room v ≡ crowded → found_of e s (look x short crowded) ≡ found_at e s allowance room
  unfolding look_at
  looked h k l m n = rw (h, k, l, m, n)

  pub found-failed : ¬ (s.ircr ≡ 0) → Err Failed ≡ found_at e s allowance room
  unfolding look
  found-failed h = looked (is-failed e s h) refl refl refl refl

  pub found-end : s.ircr ≡ 0 → s.iar ≡ e.parameters.t → Err Ended ≡ found_at e s allowance room
  unfolding look
  found-end z h = looked (at-end e s z h) refl refl refl refl

-- THE CELL. A machine that has neither failed nor run past the last cell, and the instruction that was read there from an image that fits.
pub record Reads (p : Parameters) (image : List ℕ) (at : Core) (i : Instruction) : Type 0 where
  pub fits : image_fits p image ≡ true
  pub succeeded : at.ircr ≡ 0
  pub within : at.iar ≤ p.t
  pub not_last : ¬ (at.iar ≡ p.t)
  pub read : i ≡ instruction_of (cell_of (take (4 * at.iar + 4 - 4 * at.iar) (drop (4 * at.iar) image)))

pub reads : (p : Parameters) (image : List ℕ) (at : Core) {i : Instruction} → image_fits p image ≡ true → at.ircr ≡ 0 → at.iar ≤ p.t → ¬ (at.iar ≡ p.t) →
    i ≡ instruction_of (cell_of (take (4 * at.iar + 4 - 4 * at.iar) (drop (4 * at.iar) image))) → Reads p image at i
reads p image at f s w n r = record { fits = f; succeeded = s; within = w; not_last = n; read = r }

module _ {p : Parameters} {image : List ℕ} {at : Core} {i : Instruction} (h : Reads p image at i) where
  inside : at.iar < p.t
  inside = below at.iar p.t h.within h.not_last
    where
      below : (a t : ℕ) → a ≤ t → ¬ (a ≡ t) → a < t
      below a t l n = omega arith

  is-cell : cell_from i ≡ cell_at image at.iar
  is-cell = let e : 4 * at.iar + 4 - 4 * at.iar ≡ 4 = omega arith in rw e at (ap cell_from h.read)

  is_empty_there : i.number ≡ 0 → is_empty (cell_at image at.iar) ≡ true
  is_empty_there z = empty-head p p.t image at.iar h.fits inside (sym (ap (λ (c : Cell). c.head) is-cell) ∙ z)

  not_empty : ¬ (i.number ≡ 0) → is_empty (cell_at image at.iar) ≡ false
  not_empty n = sym (ap is_empty is-cell) ∙ rw (ne_eqb i.number 0 n)

  pub is-fit : ¬ (i.number ≡ 0) → cell_fits p (cell_from i) ≡ true
  is-fit n = rw is-cell (cell-fits p p.t image at.iar h.fits inside (not_empty n))

  module _ (input : List ℕ) (registers cells : List ℤ) (allowance room : ℕ) where
    abbrev e : Environment
    e = environment_of p image input

    abbrev s : State
    s = state_of at registers cells

    status-there : {b : Bool} → is_empty (cell_at image at.iar) ≡ b → state_status e s ≡ cond b Status.ended running
    unfolding state_status
    status-there k = rw (eq-eqb at.ircr 0 h.succeeded, ne_eqb at.iar p.t h.not_last, k)

    pub found_empty : i.number ≡ 0 → Err Ended ≡ found_at e s allowance room
    unfolding look
    found_empty z = looked e s allowance room (status-there (is_empty_there z)) refl refl refl refl

    module _ (n : ¬ (i.number ≡ 0)) {cost : ℕ} (priced : cost ≡ cost_of p (cell_from i)) where
      cost-there : step_cost e s ≡ cost
      unfolding step_cost
      cost-there = sym (priced ∙ ap (cost_of p) is-cell)

      pub found_paused : allowance < cost → Err Paused ≡ found_at e s allowance room
      unfolding look
      found_paused l = looked e s allowance room (status-there (not_empty n)) cost-there refl (lt-ltb allowance cost l) refl

      module _ (enough : cost ≤ allowance) {values : ℕ} (counted : values ≡ value_count p (row_of i.number).operation)
          (ns : length registers ≡ p.n) (ss : length cells ≡ p.s) where
        values-there : length (step_values e s) ≡ values
        unfolding step_values
        values-there =
            written_count p (row_of (cell_at image at.iar).head).operation (cell_at image at.iar) s ns ss
            ∙ sym (counted ∙ ap (λ (c : Cell). value_count p (row_of c.head).operation) is-cell)

        pub found-full : room < values → Err OutputFull ≡ found_at e s allowance room
        unfolding look
        found-full l = looked e s allowance room (status-there (not_empty n)) cost-there values-there (le-ltb allowance cost enough) (lt-ltb room values l)

        pub found-runs : values ≤ room → Ok (record { instruction = i; cost = cost; values = values }) ≡ found_at e s allowance room
        unfolding look
        found-runs l =
            rw (ap instruction_of is-cell, ← cost-there, ← values-there)
            (looked e s allowance room (status-there (not_empty n)) cost-there values-there (le-ltb allowance cost enough) (le-ltb room values l))
