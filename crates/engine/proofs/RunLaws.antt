-- The loop of looks and steps: its invariant, and what a look and a step do to it, over plain values. Assumes nothing.
use Prim.Native.Nat.{ℕ, max, ◌+◌, ◌-◌, ◌≤◌, ◌<◌}
use mathlib.Core.Bool.{true, false}
use mathlib.Core.List.{List, [], ◌++◌, append_assoc, append-nil}
use mathlib.Core.Path.{◌≡◌, refl, sym, ap, ◌∙◌}
use native.Mathlib.Nat.{le_refl}
use native.Mathlib.Decide.{dec_lt}
use native.Mathlib.Omega.{arith}
use lib.IntN.{ℤ, pos, ◌-ℤ◌}
use lib.ListN.{length, take, drop, length-append, length-drop, take-append-drop, drop_of_length-le}
use lib.Signed.{le_z}
use lib.Seq.{length-take-le, drop-drop, take_at, drop_at}
use borrow.Author.Rules.{part_to_end}
use borrow.Rule.Slice.PartMut.{put_mid}
use Rattle.model.proofs.Cells.{cell-fits}
use Rattle.model.proofs.Fits.{by_cond}
use Rattle.model.proofs.Stack.{heads}
use Rattle.model.proofs.Costs.{priced, tak-run}
use Rattle.model.proofs.Fits.{Sized}
use Rattle.model.proofs.Keeps.{Sound, is_running, step_keeps}
use Rattle.model.proofs.Laws.{Goes, going}
use Rattle.model.specs.Grants.{RunState, Stop, advance, run}
use Rattle.model.specs.Images.{cell_fits}
use Rattle.model.specs.Instructions.{row_of}
use Rattle.model.specs.Machine.{greater, Look, stops, goes, look_at}
use Rattle.model.specs.Step.{Environment, Memory, State, Tak, current_cell, step_cost, step_values, step, execute, settled, environment_of}
use Rattle.model.specs.declared.Ending.{Ending}
use Rattle.effects.specs.Effects.{output_after}
use Rattle.image.specs.Decode.{instruction_of, cell_from}
use Rattle.engine.specs.Looks.{found_of, found_at}
use Rattle.std.specs.Prelude.{Ok, Err}
use Rattle.std.specs.Prelude.{Result}
use Rattle.engine.specs.declared.looks.Offer.{Offer}
use Rattle.operands.specs.Cores.{state_in}
use Rattle.operands.specs.declared.Core.{Core}
use Rattle.steps.proofs.Tops.{top-between}
use Rattle.steps.specs.Steppable.{written, Steppable}
use Rattle.engine.specs.Programs.{environment_in}
use Rattle.engine.specs.Runs.{Runnable, stop_at, RunIs}
use Rattle.engine.specs.declared.program.Program.{Program}

-- WHAT WAS FOUND
module _ (e : Environment) (s : State) where
  abbrev offered : Offer
  offered = record { instruction = instruction_of (current_cell e s); cost = step_cost e s; values = length (step_values e s) }

  found-stops : (v : Look) {x : Ending} → Err x ≡ found_of e s v → v ≡ stops x
  found-stops (stops y) h = cc
  found-stops goes h = cc

  found-runs : (v : Look) {o : Offer} → Ok o ≡ found_of e s v → (v ≡ goes) × (o ≡ offered)
  found-runs (stops y) h = (cc, cc)
  found-runs goes h = (refl, cc)

-- THE GREATER of two tops is one more than the greater SHR.
max-greater : (a b : ℕ) → pos (max a b) -ℤ pos 1 ≡ greater (pos a -ℤ pos 1) (pos b -ℤ pos 1)
max-greater a b =
    by_cond (λ z. pos (max a b) -ℤ pos 1 ≡ z) (le_z (pos a -ℤ pos 1) (pos b -ℤ pos 1)) (pos b -ℤ pos 1) (pos a -ℤ pos 1)
    (λ h. let k : max a b ≡ b = omega (arith, top-between a b h) in rw k)
    (λ h. let k : max a b ≡ a = max-first a b h in rw k)
  where
    max-first : (a b : ℕ) → le_z (pos a -ℤ pos 1) (pos b -ℤ pos 1) ≡ false → max a b ≡ a
    max-first a b h = go (dec_lt b a)
      where
        go : Dec (b < a) → max a b ≡ a
        go (yes l) = omega arith
        go (no l) = absurd (let z : ◌≡◌ {A = ℕ} 0 1 = (let t = heads a b (omega arith) in cc) in omega arith)

-- THE SLICE. v behind the first k, and the old rest behind it.
module _ (out v : List ℤ) (k : ℕ) (within : k ≤ length out) (room : length v ≤ length out - k) where
  abbrev wrote : List ℤ
  wrote = take k out ++ output_after v (drop k out)

  front : length (take k out ++ v) ≡ k + length v
  front = simp length-append (rw (length-take-le k out within))

  take-wrote : take (k + length v) wrote ≡ take k out ++ v
  take-wrote =
      rw (← append_assoc (take k out) v (drop (length v) (drop k out)))
      (take_at (take k out ++ v) (drop (length v) (drop k out)) (k + length v) front)

  drop-wrote : drop (k + length v) wrote ≡ drop (length v) (drop k out)
  drop-wrote =
      rw (← append_assoc (take k out) v (drop (length v) (drop k out)))
      (drop_at (take k out ++ v) (drop (length v) (drop k out)) (k + length v) front)

  length-wrote : length wrote ≡ length out
  length-wrote = simp (length-append, length-drop) (rw (length-take-le k out within) (omega arith))

-- A part that was lent to the slice's end and came back.
put-end : (k : ℕ) (out part : List ℤ) → put_mid k (length out - k) out part ≡ take k out ++ part
put-end k out part = rw (drop_of_length-le (drop k out) {i = length out - k} (rw length-drop (le_refl _)), append-nil)

-- What refusal 15 asks does not depend on the image.
pub sound-image : {e : Environment} {s : State} → Sound e s → Sound (environment_of e.parameters [] e.input) s
sound-image h = search

-- THE LOOP, from where a run began.
module _ (e : Environment) (start : Core) (peak₀ before granted : ℕ) (memory₀ : Memory) (slice₀ : List ℤ) where
  abbrev run_state : Core → (peak spent count : ℕ) (memory : Memory) (slice : List ℤ) → RunState State
  run_state at peak spent count memory slice =
      record { state = state_in at memory; spent = spent; deepest = pos peak -ℤ pos 1; written = take count slice }

  -- To go on from here is to go on from the beginning; the slice behind the values written is as it came.
  pub record RunInvariant (at : Core) (peak spent count : ℕ) (memory : Memory) (slice : List ℤ) : Type 0 where
    pub same : stop_at e start peak₀ before granted memory₀ slice₀ ≡ run (Tak e) granted (length slice₀) (run_state at peak spent count memory slice)
    pub rest : drop count slice ≡ drop count slice₀
    pub within : count ≤ length slice
    pub long : length slice ≡ length slice₀
    pub paid : spent ≤ granted
    pub rises : before ≤ spent
    pub sound : Sound e (state_in at memory)
    pub peak-high : peak ≤ e.parameters.s

  pub begins : Runnable e start peak₀ before granted memory₀ → RunInvariant start peak₀ before 0 memory₀ slice₀
  begins h =
      record {
        same = refl;
        rest = refl;
        within = omega arith;
        long = refl;
        paid = h.paid;
        rises = le_refl before;
        sound = h.sound;
        peak-high = h.peak-high;
      }

module _ (h : Program) {start : Core} {peak₀ before granted : ℕ} {memory₀ : Memory} {slice₀ : List ℤ}
    {at : Core} {peak spent count : ℕ} {memory : Memory} {slice : List ℤ}
    (g : RunInvariant (environment_in h) start peak₀ before granted memory₀ slice₀ at peak spent count memory slice) where
  abbrev e : Environment
  e = environment_in h

  abbrev s : State
  s = state_in at memory

  abbrev pub found : Result Offer Ending
  found = found_at e s (granted - spent) (length slice - count)

  -- What the look answered is that.
  pub is-found : {r : Result Offer Ending} →
      ((input : List ℕ) (m : Memory) → Sized e.parameters m → r ≡ found_at (environment_of e.parameters e.image input) (state_in at m) (granted - spent) (length slice - count)) →
      {x : Result Offer Ending} → r ≡ x → x ≡ found
  is-found looked k =
      sym k ∙ looked e.input memory (record { register-count = g.sound.register-count; cell-count = g.sound.cell-count })

  abbrev seen : Look
  seen = look_at (Tak e) s (granted - spent) (length slice - count)

  abbrev here : RunState State
  here = run_state e start peak₀ before granted memory₀ slice₀ at peak spent count memory slice

  next-run : run (Tak e) granted (length slice₀) here
      ≡ elim seen [ stops x ↦ record { ending = x; at = here } | goes ↦ run (Tak e) granted (length slice₀) (advance (Tak e) here) ]
  next-run =
      tak-run e h.limits.fit granted (length slice₀) here
      ∙ rw (length-take-le count slice g.within, g.long)

  -- A look that stops: all is as `run` of model says.
  pub stopped : {x : Ending} → Err x ≡ found →
      RunIs e start peak₀ before granted memory₀ slice₀ (record { ending = x; core = at; peak = peak; spent = spent; count = count }) memory slice
  stopped {x} f =
      record {
        ending = ap (λ (t : Stop State). t.ending) is;
        state = ap (λ (t : Stop State). t.at.state) is;
        spent = ap (λ (t : Stop State). t.at.spent) is;
        deepest = ap (λ (t : Stop State). t.at.deepest) is;
        count = sym n ∙ ap (λ (t : Stop State). length t.at.written) is;
        slice = whole ∙ ap (λ (t : Stop State). t.at.written ++ drop (length t.at.written) slice₀) is;
        sound = g.sound;
        rises = g.rises;
        peak-high = g.peak-high;
      }
    where
      is : record { ending = x; at = here } ≡ stop_at e start peak₀ before granted memory₀ slice₀
      is = sym (g.same ∙ next-run ∙ rw (found-stops e s seen f))

      n : length (take count slice) ≡ count
      n = length-take-le count slice g.within

      whole : slice ≡ take count slice ++ drop (length (take count slice)) slice₀
      whole = rw (n, ← g.rest, take-append-drop)

  -- A look that goes on.
  module _ {o : Offer} (f : Ok o ≡ found) where
    went : seen ≡ goes
    went = (found-runs e s seen f).0

    is-offered : o ≡ offered e s
    is-offered = (found-runs e s seen f).1

    goes-from : Goes (Tak e) s (granted - spent) (length slice - count)
    goes-from = going (Tak e) s _ _ went

    pub cost-paid : spent + o.cost ≤ granted
    cost-paid = rw is-offered (omega (arith, g.paid, goes-from.paid))

    pub cost-some : 1 ≤ o.cost
    cost-some = rw is-offered (priced e h.limits.fit s goes-from.run)

    pub room_for : count + o.values ≤ length slice
    room_for = rw is-offered (omega (arith, g.within, goes-from.room_for))

    cell-is : cell_fits e.parameters (current_cell e s) ≡ true
    cell-is =
        let r = is_running e s goes-from.run in
        cell-fits e.parameters e.parameters.t e.image at.iar h.fits (omega (arith, g.sound.iar, r.iar)) r.cell

    values-are : written o.instruction at memory ≡ step_values e s
    unfolding step_values
    values-are = rw is-offered

    part_length : length (take (length slice - count) (drop count slice)) ≡ length slice - count
    part_length = length-take-le (length slice - count) (drop count slice) (rw length-drop (le_refl _))

    pub steppable : Steppable (environment_of e.parameters [] e.input) o.instruction at memory (length (take (length slice - count) (drop count slice)))
    steppable =
        record {
          sound = sound-image g.sound;
          instruction = rw is-offered cell-is;
          room_for = rw (part_length, values-are) goes-from.room_for;
        }

    module _ (next : Core) {peak' : ℕ} {memory' : Memory} {part slice' : List ℤ}
        (stepped : state_in next memory' ≡ settled s (execute e (row_of o.instruction.number).operation (cell_from o.instruction) s))
        (output : part ≡ output_after (written o.instruction at memory) (take (length slice - count) (drop count slice)))
        (came-back : slice' ≡ put_mid count (length slice - count) slice part)
        (is-peak : peak' ≡ max peak next.top) where
      is-step : state_in next memory' ≡ step e s
      unfolding step
      is-step = stepped ∙ rw is-offered

      abbrev v : List ℤ
      v = step_values e s

      room : length v ≤ length slice - count
      room = goes-from.room_for

      is-wrote : slice' ≡ take count slice ++ output_after v (drop count slice)
      is-wrote = came-back ∙ put-end count slice part ∙ ap (λ (l : List ℤ). take count slice ++ l) (output ∙ rw (values-are, part_to_end))

      next-sound : Sound e (state_in next memory')
      next-sound = rw is-step (step_keeps e h.limits.fit h.fits s g.sound goes-from.run)

      -- The deepest SHR, by that of the step's state.
      is-deepest : pos peak' -ℤ pos 1 ≡ greater (pos peak -ℤ pos 1) (step e s).shr
      is-deepest = ap (λ (n : ℕ). pos n -ℤ pos 1) is-peak ∙ max-greater peak next.top ∙ ap (λ (t : State). greater (pos peak -ℤ pos 1) t.shr) is-step

      pub goes_on : RunInvariant e start peak₀ before granted memory₀ slice₀ next peak' (spent + o.cost) (count + o.values) memory' slice'
      unfolding advance
      goes_on =
          rw (is-offered, is-wrote)
          (record {
            same = g.same ∙ next-run ∙ rw went (rw (is-deepest, is-step, take-wrote slice v count g.within room));
            rest = drop-wrote slice v count g.within room ∙ rw (g.rest, drop-drop);
            within = rw (length-wrote slice v count g.within room) (omega (arith, g.within, room));
            long = length-wrote slice v count g.within room ∙ g.long;
            paid = omega (arith, g.paid, goes-from.paid);
            rises = omega (arith, g.rises);
            sound = next-sound;
            peak-high = omega (arith, is-peak, g.peak-high, top-between next.top e.parameters.s next-sound.high);
          })
