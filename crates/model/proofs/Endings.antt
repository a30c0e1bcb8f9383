-- The word of a grant's ending is that of the state where it stopped. Assumes nothing.
use Prim.Native.Nat.{ℕ, zero, suc, ◌+◌, ◌-◌}
use mathlib.Core.Path.{◌≡◌, refl}
use mathlib.Core.Bool.{Bool, true, false, not, ◌||◌, cond}
use mathlib.Core.List.{[]}
use lib.Dec.{eqb, ltb}
use lib.ListN.{length}
use native.Mathlib.Omega.{arith}
use borrow.Author.Tests.{ne_eqb}
use Rattle.model.specs.declared.Ending.{Ending}
use Rattle.model.specs.declared.Ending.TheVariants.{Failed, Ended, Paused, OutputFull}
use Rattle.model.specs.Numbers.{bytes}
use Rattle.model.specs.Words.{is_empty}
use Rattle.model.specs.Machine.{Status, running, stops, look, look_at}
use Rattle.model.specs.Grants.{Call, Account, beginning, account_after, run, hand_back, refuse, accept, grant}
use Rattle.model.specs.Step.{Environment, State, Tak, current_cell, state_status, step_cost, step_values}
use Rattle.model.specs.Calls.{Held, grant_refusal, account_of, environment_for, Granted, granted, held_after, ending_word, outcome_word, stop_word}
use Rattle.model.proofs.Fits.{grant-accepted}
use Rattle.model.proofs.Costs.{priced}
use Rattle.model.proofs.Loop.{run_looks}

-- The tests of the look, in order, with their words.
look-word : (fine over short crowded : Bool) (x : Ending) →
    look (cond fine (cond over Status.ended running) Status.failed) short crowded ≡ stops x →
    ending_word x
    ≡ cond (not fine) (bytes "FAILED") (cond over (bytes "ENDED") (cond short (bytes "PAUSED") (cond crowded (bytes "OUTPUT FULL") [])))
unfolding look ending_word
look-word false over short crowded x h = let e : x ≡ Failed = cc in rw e
look-word true true short crowded x h = let e : x ≡ Ended = cc in rw e
look-word true false true crowded x h = let e : x ≡ Paused = cc in rw e
look-word true false false true x h = let e : x ≡ OutputFull = cc in rw e
look-word true false false false x h = cc

stop-word : (e : Environment) (a : Account State) (room : ℕ) (x : Ending) → look_at (Tak e) a.state (a.granted - a.spent) room ≡ stops x →
    ending_word x ≡ stop_word e a room
unfolding look_at state_status stop_word
stop-word e a room x h =
    let s = a.state in
    look-word (eqb s.ircr 0) (eqb s.iar e.parameters.t || is_empty (current_cell e s)) (ltb (a.granted - a.spent) (step_cost e s))
    (ltb room (length (step_values e s))) x h

module _ (lent : Environment) (held : Held) (c : Call) where
  abbrev e : Environment
  e = environment_for lent held

  abbrev refusal : ℕ
  refusal = grant_refusal e (account_of held) c

  abbrev handed : Granted
  handed = granted lent held c

  -- Worked out at the record and memory handed back and the room that is left; none for a refusal.
  pub grant-word : outcome_word handed.reply.outcome
      ≡ cond (eqb refusal 0) (stop_word e (account_of (held_after handed)) (length c.slice - handed.reply.values)) []
  unfolding outcome_word granted grant accept hand_back refuse
  grant-word = go refusal refl
    where
      go : (k : ℕ) → refusal ≡ k →
          outcome_word handed.reply.outcome
          ≡ cond (eqb k 0) (stop_word e (account_of (held_after handed)) (length c.slice - handed.reply.values)) []
      go zero h =
          let fit = (grant-accepted e (account_of held) c h).start.fit in
          let from = beginning (account_of held) in
          let t = run (Tak e) (held.rec.granted + c.cycles) (length c.slice) from in
          rw (h, grant)
          (stop-word e (account_after (account_of held) c t)
          (length c.slice - length t.at.written) t.ending
          (run_looks (Tak e) (priced e fit) (held.rec.granted + c.cycles) (length c.slice) from))
      go (suc k) h = rw (h, grant, ne_eqb (suc k) 0 (λ z. omega arith))
