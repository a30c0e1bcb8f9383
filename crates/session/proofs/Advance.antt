-- A grant whose output slice has room for any step stops for a full output only after a step. Assumes nothing.
use Prim.Native.Nat.{ℕ, zero, suc, ◌+◌, ◌-◌, ◌≤◌, ◌<◌}
use mathlib.Core.Bool.{Bool, true, false}
use mathlib.Core.Path.{◌≡◌, refl, sym, ap, ◌∙◌}
use native.Mathlib.Nat.{le_refl}
use native.Mathlib.Omega.{arith}
use lib.ListN.{length}
use borrow.Author.Tests.{ltb-true}
use Rattle.model.proofs.Costs.{priced, tak-run}
use Rattle.model.proofs.Fits.{limits, grant-accepted}
use Rattle.model.proofs.GrantKeeps.{record-sound, grant-kept}
use Rattle.model.proofs.Keeps.{Sound}
use Rattle.model.proofs.Laws.{going}
use Rattle.model.proofs.Lists as lists
use Rattle.model.proofs.Loop.{run_keeps}
use Rattle.model.proofs.Refusals.{grant-refused}
use Rattle.model.specs.Calls.{Held, environment_for, account_of, Granted, granted, grant_refusal}
use Rattle.model.specs.Grants.{Call, Account, Stop, beginning, advance, run, accept, hand_back}
use Rattle.model.specs.Instructions.{Operation, clear_registers, clear_cells, dump_registers, dump_cells, inputs, outputs, pushes, pops, skips, idles, writes, writes_both, jumps, jumps_on}
use Rattle.model.specs.Machine.{Status, running, Look, stops, goes, look, look_at}
use Rattle.model.specs.Parameters.{Fit}
use Rattle.model.specs.Step.{Environment, State, Tak, written_by, current_cell, current_operation, state_status, step_cost, step_values}
use Rattle.model.specs.declared.Ending.{Ending}
use Rattle.model.specs.declared.Ending.TheVariants.{Failed, Ended, Paused, OutputFull}
use Rattle.model.specs.Grants.{Stopped}
use Rattle.model.specs.Program.{slice_values, is_full}
use Rattle.session.specs.Sessions.{Progress}

-- No step writes more than 4,096 values.
few : (e : Environment) → Fit e.parameters → (s : State) → Sound e s → length (step_values e s) ≤ slice_values
unfolding step_values
few e f s h = go (current_operation e s)
  where
    go : (o : Operation) → length (written_by o (current_cell e s) s) ≤ slice_values
    go clear_registers = omega arith
    go clear_cells = omega arith
    go dump_registers = omega (arith, h.register-count, (limits e.parameters f).n-high)
    go dump_cells = omega (arith, h.cell-count, (limits e.parameters f).s-high)
    go inputs = omega arith
    go outputs = omega arith
    go pushes = omega arith
    go pops = omega arith
    go skips = omega arith
    go idles = omega arith
    go (writes to g) = omega arith
    go (writes_both f g) = omega arith
    go (jumps test) = omega arith
    go (jumps_on b) = omega arith

look-full : (u : Status) (short crowded : Bool) → look u short crowded ≡ stops OutputFull → crowded ≡ true
unfolding look
look-full Status.failed short crowded h = cc
look-full Status.ended short crowded h = cc
look-full running true crowded h = cc
look-full running false true h = refl
look-full running false false h = cc

module _ (e : Environment) (a : Account State) (c : Call) (h : grant_refusal e a c ≡ 0) (room : slice_values ≤ length c.slice) where
  abbrev given : ℕ
  given = a.granted + c.cycles

  abbrev stop : Stop State
  stop = run (Tak e) given (length c.slice) (beginning a)

  fit : Fit e.parameters
  fit = (grant-accepted e a c h).start.fit

  sound : Sound e a.state
  sound =
      let g = grant-accepted e a c h in
      (record-sound e a g.record-fits g.start.sized).state

  -- The first look finds room, so that what stops for a full output has taken a step.
  stop-spends : stop.ending ≡ OutputFull → a.spent < stop.at.spent
  unfolding look_at advance
  stop-spends full = go (look_at (Tak e) a.state (given - a.spent) (length c.slice - 0)) refl
    where
      go : (v : Look) → look_at (Tak e) a.state (given - a.spent) (length c.slice - 0) ≡ v → a.spent < stop.at.spent
      go (stops x) q =
          let s : stop ≡ record { ending = x; at = beginning a } = tak-run e fit given (length c.slice) (beginning a) ∙ rw q in
          let x-full : x ≡ OutputFull = sym (ap (λ (t : Stop State). t.ending) s) ∙ full in
          let crowded = look-full (state_status e a.state) _ _ (q ∙ ap stops x-full) in
          absurd (omega (arith, room, few e fit a.state sound, ltb-true (length c.slice - 0) (length (step_values e a.state)) crowded))
      go goes q =
          let s : stop ≡ run (Tak e) given (length c.slice) (advance (Tak e) (beginning a)) = tak-run e fit given (length c.slice) (beginning a) ∙ rw q in
          let some = priced e fit a.state (going (Tak e) a.state _ _ q).run in
          let on =
          run_keeps (Tak e) given (length c.slice) (λ b. a.spent + step_cost e a.state ≤ b.spent) (λ b k q. omega arith) (advance (Tak e) (beginning a))
          (le_refl _)
          in
          rw s (omega (arith, on, some))

-- An ending that is followed by another grant is a full output.
full-ending : (x : Ending) → is_full (Stopped x) ≡ true → x ≡ OutputFull
full-ending Failed h = cc
full-ending Ended h = cc
full-ending Paused h = cc
full-ending OutputFull h = refl

module _ (e : Environment) (h : Held) (c : Call) (room : slice_values ≤ length c.slice) where
  abbrev own : Environment
  own = environment_for e h

  abbrev before : Account State
  before = account_of h

  -- After a full output more is spent than before, and not more than granted.
  pub full-progress : is_full (granted e h c).reply.outcome ≡ true → Progress h.rec c.cycles (granted e h c).reply.rec
  unfolding granted accept hand_back
  full-progress full = go (grant_refusal own before c) refl
    where
      go : (k : ℕ) → grant_refusal own before c ≡ k → Progress h.rec c.cycles (granted e h c).reply.rec
      go zero z =
          let kept = grant-kept own before c z in
          let q = lists.grant-accepted (Tak own) (grant_refusal own) before c z in
          let f = rw q at full in
          record { spends = rw q (stop-spends own before c z room (full-ending _ f)); within = kept.sound.spent; granted = kept.granted }
      go (suc k) z =
          let refused = ap (λ (x : Granted). is_full x.reply.outcome) (grant-refused e h c k z) in
          absurd (let z : ◌≡◌ {A = ℕ} 0 1 = cc in omega arith)
