-- An accepted grant leaves a record and memory that pass refusal 15 again, and so does an accepted start; request E1 of an accepted grant. Assumes nothing.
use Prim.Native.Nat.{ℕ, zero, suc, ◌+◌, ◌≤◌}
use mathlib.Core.Path.{◌≡◌, refl, ap, ◌∙◌}
use mathlib.Core.Bool.{Bool, true}
use mathlib.Core.List.{List, [], ◌∷◌, ◌++◌}
use native.Mathlib.Nat.{le_refl}
use native.Mathlib.Omega.{arith}
use lib.IntN.{pos, ◌-ℤ◌}
use lib.ListN.{length}
use lib.Signed.{le_z}
use borrow.Author.Tests.{leb-true}
use Rattle.model.specs.Parameters.{Fit, max_granted, refusal_of}
use Rattle.model.specs.Images.{image_fits}
use Rattle.model.specs.Machine.{goes}
use Rattle.model.specs.Grants.{Call, Account, RunState, beginning, hand_back, refuse, advance, look_from, accept, grant}
use Rattle.model.specs.Step.{Environment, Memory, State, Tak, fresh_state, step}
use Rattle.model.specs.Calls.{Held, environment_for, granted, fresh_record, start_checks, fresh_memory, Started, started, held_after_start, record_tests, memory_tests, memory_of, record_fits, grant_refusal, account_of}
use Rattle.model.specs.Demand.{KeepsDeepest}
use Rattle.model.proofs.Fits.{all_true, Sized, GrantFits, start-accepted, grant-accepted}
use Rattle.model.proofs.Deepest.{le_z-refl, greater-second, greater-most, from-greatest}
use Rattle.model.proofs.Costs.{priced}
use Rattle.model.proofs.Laws.{going, costs_inj}
use Rattle.model.proofs.Loop.{run_keeps, run-went}
use Rattle.model.proofs.Lists.{final}
use Rattle.model.proofs.Lists as lists
use Rattle.model.proofs.Keeps.{Sound, step_keeps, fresh-sound}
use Rattle.std.proofs.Common.{rules}

-- THE LOOP
module _ (e : Environment) (granted before : ℕ) where
  -- The state is sound, no more is spent than granted, and no less than before; the deepest SHR is between SHR and S-1.
  record Keeping (a : RunState State) : Type 0 where
    state : Sound e a.state
    within : a.spent ≤ granted
    rises : before ≤ a.spent
    low : le_z a.state.shr a.deepest ≡ true
    high : le_z a.deepest (pos e.parameters.s -ℤ pos 1) ≡ true

  advance_keeps : Fit e.parameters → image_fits e.parameters e.image ≡ true → (room : ℕ) (a : RunState State) → Keeping a →
      look_from (Tak e) granted room a ≡ goes → Keeping (advance (Tak e) a)
  unfolding advance
  advance_keeps f i room a k h =
      let g = going (Tak e) a.state _ _ h in
      let state = step_keeps e f i a.state k.state g.run in
      let next = (step e a.state).shr in
      record {
        state = state;
        within = omega (arith, g.paid);
        rises = omega arith;
        low = greater-second a.deepest next;
        high = greater-most a.deepest next _ k.high state.high;
      }

-- THE RECORD
-- What 15 asks of a record and the memory, and the lengths of the memory.
pub record AccountSound (e : Environment) (a : Account State) : Type 0 where
  pub state : Sound e a.state
  pub spent : a.spent ≤ a.granted
  pub granted : a.granted ≤ max_granted
  pub low : le_z a.state.shr a.deepest ≡ true
  pub high : le_z a.deepest (pos e.parameters.s -ℤ pos 1) ≡ true

module _ (e : Environment) (a : Account State) where
  abbrev tests : List Bool
  tests = record_tests e.parameters (length e.input) a ++ memory_tests e.parameters (memory_of a.state)

  pub record-sound : record_fits e a ≡ true → Sized e.parameters (memory_of a.state) → AccountSound e a
  unfolding record_fits
  record-sound h n =
      let iar = all_true tests h in
      let ircr = iar.1 in
      let low = ircr.1 in
      let high = low.1 in
      let spent = high.1 in
      let granted = spent.1 in
      let place = granted.1 in
      let above = place.1 in
      let below = above.1 in
      let registers = below.1 in
      let cells = registers.1 in
      record {
        state = record {
          iar = leb-true a.state.iar e.parameters.t iar.0;
          ircr = leb-true a.state.ircr 3 ircr.0;
          low = low.0;
          high = high.0;
          place = leb-true a.state.place (length e.input) place.0;
          registers = registers.0;
          cells = cells.0;
          register-count = n.register-count;
          cell-count = n.cell-count;
        };
        spent = leb-true a.spent a.granted spent.0;
        granted = leb-true a.granted max_granted granted.0;
        low = above.0;
        high = below.0;
      }

  pub sound_record : AccountSound e a → record_fits e a ≡ true
  unfolding record_fits
  sound_record h = search rules

-- AN ACCEPTED GRANT: from account a to b.
pub record GrantKept (e : Environment) (a : Account State) (c : Call) (b : Account State) : Type 0 where
  pub sound : AccountSound e b
  pub sized : Sized e.parameters (memory_of b.state)
  pub granted : b.granted ≡ a.granted + c.cycles
  pub rises : a.spent ≤ b.spent

module _ (e : Environment) (a : Account State) (c : Call) where
  accept-kept : GrantFits e a c → GrantKept e a c (accept (Tak e) a c).account
  unfolding accept hand_back
  accept-kept g =
      let s = record-sound e a g.record-fits g.start.sized in
      let granted = a.granted + c.cycles in
      let k =
      run_keeps (Tak e) granted (length c.slice) (Keeping e granted a.spent)
      (advance_keeps e granted a.spent g.start.fit g.start.image-fits (length c.slice))
      (beginning a)
      (record { state = s.state; within = omega arith; rises = le_refl a.spent; low = s.low; high = s.high }) in
      record {
        sound = record { state = k.state; spent = k.within; granted = g.granted; low = k.low; high = k.high };
        sized = record { register-count = k.state.register-count; cell-count = k.state.cell-count };
        granted = refl;
        rises = k.rises;
      }

  pub grant-kept : grant_refusal e a c ≡ 0 → GrantKept e a c (grant (Tak e) (grant_refusal e) a c).account
  grant-kept h = rw (lists.grant-accepted (Tak e) (grant_refusal e) a c h) (accept-kept (grant-accepted e a c h))

  pub grant_keeps : grant_refusal e a c ≡ 0 → record_fits e (grant (Tak e) (grant_refusal e) a c).account ≡ true
  grant_keeps h = sound_record e _ (grant-kept h).sound

  -- A grant, accepted or refused.
  pub grant-sound : AccountSound e a → AccountSound e (grant (Tak e) (grant_refusal e) a c).account
  unfolding refuse
  grant-sound s = go (grant_refusal e a c) refl
    where
      go : (n : ℕ) → grant_refusal e a c ≡ n → AccountSound e (grant (Tak e) (grant_refusal e) a c).account
      go zero h = (grant-kept h).sound
      go (suc k) h = rw (lists.grant-refused (Tak e) (grant_refusal e) a c k h) s

-- REQUEST E1 of an accepted grant, on any record and memory.
module _ (lent : Environment) (h : Held) (c : Call) where
  abbrev own : Environment
  own = environment_for lent h

  pub grant-deepest : grant_refusal own (account_of h) c ≡ 0 → KeepsDeepest lent h (granted lent h c)
  unfolding granted accept hand_back
  grant-deepest r =
      let sound = (grant-kept own (account_of h) c r).sound in
      let w = run-went (Tak own) (h.rec.granted + c.cycles) (length c.slice) (beginning (account_of h)) in
      let is = lists.grant-accepted (Tak own) (grant_refusal own) (account_of h) c r in
      let fit = (grant-accepted own (account_of h) c r).start.fit in
      record {
        steps = w.steps;
        reaches = w.reaches;
        state = rw is w.state;
        spent = rw is w.spent;
        only = λ n reaches q. costs_inj (Tak own) (priced own fit) (account_of h).state n w.steps reaches w.reaches (omega (arith, rw is at q, w.spent));
        greatest = rw (is, w.deepest) (from-greatest (Tak own) h.rec.deepest (account_of h).state w.steps);
        low = sound.low;
        high = sound.high;
        parameters = refl;
        passes = sound_record own _ sound;
      }

-- What a list of grants leaves.
pub final-sound : (e : Environment) (a : Account State) (cs : List Call) → AccountSound e a →
    AccountSound e (final (Tak e) (grant_refusal e) a cs)
unfolding final
final-sound e a [] s = s
final-sound e a (c ∷ cs) s = final-sound e (grant (Tak e) (grant_refusal e) a c).account cs (grant-sound e a c s)

-- AN ACCEPTED START
module _ (e : Environment) where
  pub fresh-account : Fit e.parameters →
      AccountSound e (record { state = fresh_state e.parameters; granted = 0; spent = 0; deepest = (fresh_state e.parameters).shr })
  fresh-account f =
      let state = fresh-sound e f in
      record { state = state; spent = omega arith; granted = omega arith; low = le_z-refl (fresh_state e.parameters).shr; high = state.high }

  -- What an accepted start hands back, and that it fits.
  module _ (m : Memory) (h : refusal_of (start_checks e m) ≡ 0) where
    pub started-accepted : started e m
        ≡ record { reply = record { refusal = 0; rec = fresh_record e.parameters }; memory = fresh_memory e.parameters }
    unfolding started
    started-accepted = rw (h, started)

    pub started-fits : record_fits e (account_of (held_after_start (started e m))) ≡ true
    started-fits =
        ap (λ (x : Started). record_fits e (account_of (held_after_start x))) started-accepted
        ∙ sound_record e _ (fresh-account (start-accepted e m h).fit)
