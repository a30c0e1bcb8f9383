-- What a step's calls ask, from what is known before it. Assumes nothing.
use Prim.Native.Nat.{ℕ, ◌≤◌, ◌<◌}
use mathlib.Core.List.{List, []}
use mathlib.Core.Path.{◌≡◌, ap}
use native.Mathlib.Omega.{arith}
use lib.IntN.{ℤ}
use lib.ListN.{length}
use lib.Signed.{mag}
use borrow.Author.Tests.{eq-eqb, ne_eqb}
use Rattle.model.proofs.Cells.{CellReadable, cell-readable, fits-number}
use Rattle.model.proofs.Fits.{Limits as Known, limits}
use Rattle.model.proofs.Keeps.{value-mag}
use Rattle.model.proofs.Ranges.{row-range}
use Rattle.model.specs.Instructions.{row_of}
use Rattle.model.specs.Parameters.{limit}
use Rattle.model.specs.Step.{as_memory, State, environment_of, value_of, execute, settled}
use Rattle.model.specs.declared.Parameters.{Parameters}
use Rattle.bounds.specs.declared.limits.Limits.{Limits}
use Rattle.effects.specs.Effects.{Indexed, output_after}
use Rattle.image.proofs.FitLaws.{is-limit}
use Rattle.image.specs.Decode.{cell_from}
use Rattle.image.specs.declared.decode.Instruction.{Instruction}
use Rattle.operands.specs.Cores.{state_of, Bounded}
use Rattle.operands.specs.declared.Core.{Core}
use Rattle.steps.specs.Choices.{plan_of, Choosable}
use Rattle.plans.specs.Plans.{registers_after, cells_after, Paired, values_of, planned}
use Rattle.plans.specs.declared.Plan.{Plan}
use Rattle.steps.specs.Steppable.{written, Steppable}
use Rattle.steps.proofs.Steps.{Does, Steady, plan-does}
use Rattle.steps.proofs.Targets.{names-target}
use Rattle.steps.proofs.Tops.{top-between}

module _ (l : Limits) {i : Instruction} {at : Core} {input : List ℕ} {registers cells : List ℤ} {room : ℕ}
    (h : Steppable (environment_of l.parameters [] input) i at (as_memory registers cells) room) where
  abbrev p : Parameters
  p = l.parameters

  abbrev s : State
  s = state_of at registers cells

  known : Known p
  known = limits p l.fit

  top-high : at.top ≤ p.s
  top-high = top-between at.top p.s h.sound.high

  pub bounded : Bounded at registers
  bounded =
      record {
        iar = omega (arith, h.sound.iar, known.t-high);
        ircr = h.sound.ircr;
        top = omega (arith, top-high, known.s-high);
        register-count = omega (arith, h.sound.register-count, known.n-high);
      }

  pub indexed : Indexed registers cells
  indexed =
      record {
        register-count = omega (arith, h.sound.register-count, known.n-high);
        cell-count = omega (arith, h.sound.cell-count, known.s-high);
      }

  readable : CellReadable p (cell_from i)
  readable = cell-readable p (cell_from i) h.instruction

  first-within : mag (value_of s i.first) < limit p.k
  first-within = value-mag (environment_of p [] input) known s h.sound i.first readable.first

  second-within : mag (value_of s i.second) < limit p.k
  second-within = value-mag (environment_of p [] input) known s h.sound i.second readable.second

  -- The values of the first two words, as they were read.
  pub choosable : {x y : ℤ} → x ≡ value_of s i.first → y ≡ value_of s i.second → Choosable i.number p l.m x y at registers cells input
  choosable e f =
      let n = fits-number p (cell_from i) h.instruction in
      record {
        from = n.0;
        to = n.1;
        limit_is = l.m_value;
        is-limit = is-limit p l.fit l.m_value;
        first = rw (e, l.m_value) first-within;
        second = rw (f, l.m_value) second-within;
        bounded = bounded;
        low = top-between p.b at.top h.sound.low;
        high = omega (arith, top-high, h.sound.cell-count);
        place = h.sound.place;
      }

  steady : (image : List ℕ) → Steady (environment_of p image input) at registers cells (row_of i.number).operation (cell_from i)
  steady image =
      record {
        register-count = h.sound.register-count;
        cell-count = h.sound.cell-count;
        low = top-between p.b at.top h.sound.low;
        high = bounded.top;
        target = names-target p (cell_from i) h.instruction;
        first-within = first-within;
        second-within = second-within;
        range = row-range p.k i.number known.k-low;
      }

  -- The plan that was chosen, with the values as they were read.
  module _ {x y : ℤ} (e : x ≡ value_of s i.first) (f : y ≡ value_of s i.second) {plan : Plan}
      (g : plan ≡ plan_of p input at registers cells (row_of i.number).operation (cell_from i) x y) where
    chosen : plan ≡ plan_of p input at registers cells (row_of i.number).operation (cell_from i) (value_of s i.first) (value_of s i.second)
    chosen = rw (e, f) at g

    does : (image : List ℕ) → Does registers cells at plan (execute (environment_of p image input) (row_of i.number).operation (cell_from i) s) (written i at (as_memory registers cells))
    does image = rw chosen (plan-does (environment_of p image input) at registers cells (row_of i.number).operation (cell_from i) (steady image))

    pub values-are : values_of plan.to plan.value registers cells ≡ written i at (as_memory registers cells)
    values-are = (does []).values

    pub room_enough : length (values_of plan.to plan.value registers cells) ≤ room
    room_enough = rw values-are h.room_for

    pub is-paired : Paired plan
    is-paired = (does []).paired

    -- A plan that succeeds.
    pub stepped : plan.next.ircr ≡ 0 → (image : List ℕ) → {registers' cells' : List ℤ} → registers' ≡ registers_after plan registers →
        cells' ≡ cells_after plan cells →
        state_of plan.next registers' cells'
        ≡ settled s (execute (environment_of p image input) (row_of i.number).operation (cell_from i) s)
    unfolding planned
    stepped z image r c = rw (r, c) ((rw (eq-eqb plan.next.ircr 0 z) at (does image).step))

    -- A plan that fails: IRCR is set, and the registers, the data cells and the output stay.
    module _ (n : ¬ (plan.next.ircr ≡ 0)) where
      pub failed : (image : List ℕ) →
          state_of (record { iar = at.iar; ircr = plan.next.ircr; top = at.top; place = at.place }) registers cells
          ≡ settled s (execute (environment_of p image input) (row_of i.number).operation (cell_from i) s)
      unfolding planned
      failed image =
          (rw (ne_eqb plan.next.ircr 0 n) at (does image).step)

      pub output-left : (out : List ℤ) → out ≡ output_after (written i at (as_memory registers cells)) out
      output-left out = ap (λ (l : List ℤ). output_after l out) ((does []).silent n)
