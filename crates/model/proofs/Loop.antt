-- The grant loop, from wherever a grant stands: what its steps keep, and that its fuel suffices. Assumes nothing.
use Prim.Native.Nat.{ℕ, zero, suc, ◌+◌, ◌-◌, ◌<◌}
use mathlib.Core.Path.{◌≡◌, refl, sym, ◌∙◌}
use mathlib.Core.Logic.{◌⊎◌, inl, inr}
use native.Mathlib.Omega.{arith}
use native.Mathlib.Nat.{le_refl, eq-or-lt_of_le, le_of_suc-le-suc}
use Rattle.model.specs.declared.Ending.{Ending}
use Rattle.model.specs.Machine.{Machine, running, Look, stops, goes, later, over, costs_from, deepest_fold, ReachesFrom, Priced}
use Rattle.model.specs.Grants.{RunState, Stop, advance, look_from, loop, run}
use Rattle.model.proofs.Laws.{going}

module _ (M : Machine) (granted room : ℕ) where
  open M use {St, status}

  -- The two equations of the loop.
  loop-stops : (n : ℕ) (a : RunState St) (e : Ending) → look_from M granted room a ≡ stops e → loop M granted room (suc n) a ≡ record { ending = e; at = a }
  unfolding loop
  loop-stops n a e h = rw (h, loop)

  loop-goes : (n : ℕ) (a : RunState St) → look_from M granted room a ≡ goes → loop M granted room (suc n) a ≡ loop M granted room n (advance M a)
  unfolding loop
  loop-goes n a h = rw (h, loop)

  -- Whatever each step keeps holds where the loop stops.
  module _ (Q : RunState St → Type 0) (kept : (a : RunState St) → Q a → look_from M granted room a ≡ goes → Q (advance M a)) where
    loop_keeps : (fuel : ℕ) (a : RunState St) → Q a → Q (loop M granted room fuel a).at
    unfolding loop
    loop_keeps zero a q = q
    loop_keeps (suc n) a q = go (look_from M granted room a) refl (loop_keeps n (advance M a))
      where
        go : (v : Look) → look_from M granted room a ≡ v → (Q (advance M a) → Q (loop M granted room n (advance M a)).at) → Q (loop M granted room (suc n) a).at
        go (stops e) h ih = rw (loop-stops n a e h) q
        go goes h ih = rw (loop-goes n a h) (ih (kept a q h))

    pub run_keeps : (a : RunState St) → Q a → Q (run M granted room a).at
    unfolding run
    run_keeps a q = loop_keeps (suc (granted - a.spent)) a q

  -- From wherever it began: the loop takes a number of steps, each from a state that runs, and gathers their costs and the greatest SHR.
  module _ (b : RunState St) where
    pub record Went (a : RunState St) : Type 0 where
      pub steps : ℕ
      pub reaches : ReachesFrom M b.state steps
      pub state : a.state ≡ later M steps b.state
      pub spent : a.spent ≡ b.spent + costs_from M b.state steps
      pub deepest : a.deepest ≡ over M (deepest_fold M) steps b.state b.deepest

    goes_further : (a : RunState St) → Went a → look_from M granted room a ≡ goes → Went (advance M a)
    unfolding advance later over
    goes_further a w h =
        record {
          steps = suc w.steps;
          reaches = λ i l. split i (eq-or-lt_of_le (le_of_suc-le-suc l));
          state = rw w.state;
          spent = rw w.state (omega (arith, w.spent));
          deepest = rw (w.state, w.deepest);
        }
      where
        split : (i : ℕ) → (i ≡ w.steps) ⊎ (i < w.steps) → status (later M i b.state) ≡ running
        split i (inl e) = rw (e, ← w.state) (going M a.state _ _ h).run
        split i (inr l) = w.reaches i l

    pub run-went : Went (run M granted room b).at
    unfolding later over
    run-went = run_keeps Went goes_further b (record { steps = 0; reaches = λ i l. absurd (omega arith); state = refl; spent = omega arith; deepest = refl })

module _ (M : Machine) (priced : Priced M) (granted room : ℕ) where
  open M use {St, cost}

  -- A step that is paid for and costs something leaves fewer cycles.
  fewer : (n : ℕ) (a : RunState St) → look_from M granted room a ≡ goes → granted - a.spent < suc n → granted - (a.spent + cost a.state) < n
  fewer n a h l =
      let g = going M a.state _ _ h in
      let pos = priced a.state g.run in
      omega (arith, g.paid)

  loop_enough : (n k : ℕ) (a : RunState St) → granted - a.spent < n → granted - a.spent < k → loop M granted room n a ≡ loop M granted room k a
  unfolding advance
  loop_enough zero k a p q = absurd (omega arith)
  loop_enough (suc n) zero a p q = absurd (omega arith)
  loop_enough (suc n) (suc k) a p q = go (look_from M granted room a) refl (loop_enough n k (advance M a))
    where
      go : (v : Look) → look_from M granted room a ≡ v →
          (granted - (a.spent + cost a.state) < n → granted - (a.spent + cost a.state) < k → loop M granted room n (advance M a) ≡ loop M granted room k (advance M a)) →
          loop M granted room (suc n) a ≡ loop M granted room (suc k) a
      go (stops e) h ih = loop-stops M granted room n a e h ∙ sym (loop-stops M granted room k a e h)
      go goes h ih = loop-goes M granted room n a h ∙ ih (fewer n a h p) (fewer k a h q) ∙ sym (loop-goes M granted room k a h)

  -- A loop stops where the look has its ending.
  loop_looks : (n : ℕ) (a : RunState St) → granted - a.spent < n →
      look_from M granted room (loop M granted room n a).at ≡ stops (loop M granted room n a).ending
  unfolding advance
  loop_looks zero a l = absurd (omega arith)
  loop_looks (suc n) a l = go (look_from M granted room a) refl (loop_looks n (advance M a))
    where
      go : (v : Look) → look_from M granted room a ≡ v →
          (granted - (a.spent + cost a.state) < n →
          look_from M granted room (loop M granted room n (advance M a)).at ≡ stops (loop M granted room n (advance M a)).ending) →
          look_from M granted room (loop M granted room (suc n) a).at ≡ stops (loop M granted room (suc n) a).ending
      go (stops e) h ih = rw (loop-stops M granted room n a e h) h
      go goes h ih = rw (loop-goes M granted room n a h) (ih (fewer n a h l))

  -- So does a run.
  pub run_looks : (a : RunState St) → look_from M granted room (run M granted room a).at ≡ stops (run M granted room a).ending
  unfolding run
  run_looks a = loop_looks _ a (le_refl _)

  -- What a reader may take for its definition: look; stop, or step and go on.
  pub run_law : (a : RunState St) →
      run M granted room a ≡ elim (look_from M granted room a) [ stops e ↦ record { ending = e; at = a } | goes ↦ run M granted room (advance M a) ]
  unfolding run advance
  run_law a = go (look_from M granted room a) refl
    where
      go : (v : Look) → look_from M granted room a ≡ v →
          run M granted room a ≡ elim v as (λ x. Stop St) [ stops e ↦ record { ending = e; at = a } | goes ↦ run M granted room (advance M a) ]
      go (stops e) h = loop-stops M granted room _ a e h
      go goes h = loop-goes M granted room _ a h ∙ loop_enough _ _ (advance M a) (fewer _ a h (le_refl _)) (le_refl _)
