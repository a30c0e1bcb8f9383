-- What start and grant hand back, by their checks and by the run. Assumes nothing.
use Prim.Native.Nat.{ℕ, ◌+◌, ◌-◌, ◌≤◌}
use mathlib.Core.Bool.{cond}
use mathlib.Core.List.{List, []}
use mathlib.Core.Path.{◌≡◌, sym, ap, ◌∙◌}
use native.Mathlib.Omega.{arith}
use lib.Dec.{eqb}
use lib.IntN.{ℤ, pos, ◌-ℤ◌}
use lib.ListN.{length, replicate}
use Rattle.model.proofs.Endings.{grant-word}
use Rattle.model.proofs.Fits.{start-accepted, GrantFits, grant-accepted, limits}
use Rattle.model.proofs.GrantKeeps.{AccountSound, record-sound, started-accepted}
use Rattle.model.proofs.Lists as lists
use Rattle.model.proofs.Refusals.{grant-number}
use Rattle.model.proofs.Replies.{start-answered, grant-answered}
use Rattle.model.specs.Calls.{Held, as_started, held_after, environment_for, fresh_record, start_checks, account_of, record_of, Granted, granted, granted_by, grant_refusal, outcome_number, outcome_word, stop_word}
use Rattle.model.specs.Grants.{Call, Account, accept, hand_back}
use Rattle.model.specs.Parameters.{refusal_of}
use Rattle.model.specs.Replies.{refusal_number_of, start_answer, grant_answer}
use Rattle.model.specs.Step.{Environment, Memory, State, Tak}
use Rattle.model.specs.declared.AcceptedGrant.{AcceptedGrant}
use Rattle.model.specs.declared.Refusal.{Refusal}
use Rattle.std.specs.Prelude.{Result as Answer, Ok, IsErr, IsErrAnd}
use Rattle.model.specs.Grants.{Stopped}
use Rattle.model.specs.declared.Record.{Record}
use Rattle.engine.specs.Runs.{Runnable, stop_at, RunIs}
use Rattle.engine.specs.declared.Ran.{Ran}
use Rattle.operands.specs.Cores.{state_in}
use Rattle.operands.specs.declared.Core.{Core}
use Rattle.machine.specs.CallContracts.{StartIs, GrantIs}
use Rattle.machine.specs.Cores.{HeadsFit}

-- START
module _ (e : Environment) (m : Memory) where
  pub start-refuses : (r : Answer Record Refusal) (x : Refusal) → IsErr r × IsErrAnd r (λ y. y ≡ x) → refusal_number_of x ≡ refusal_of (start_checks e m) →
      StartIs e m (record { reply = start_answer r; memory = m })
  start-refuses r x h q = record { given = start-answered e m r x h q }

  pub start-accepts : 0 ≡ refusal_of (start_checks e m) → {registers' cells' : List ℤ} →
      registers' ≡ replicate (length m.registers) (pos 0) → cells' ≡ replicate (length m.cells) (pos 0) →
      StartIs e m (as_started (start_answer (Ok (fresh_record e.parameters))) registers' cells')
  start-accepts q r c =
      let h = sym q in
      let sized = (start-accepted e m h).sized in
      record { given = rw (r, c, sized.register-count, sized.cell-count) (sym (started-accepted e m h)) }

-- GRANT
module _ (lent : Environment) (held : Held) (c : Call) where
  abbrev e : Environment
  e = environment_for lent held

  abbrev account : Account State
  account = account_of held

  -- The word of what a grant hands back.
  abbrev word_given : Granted → List ℕ
  word_given x = cond (eqb (grant_refusal e account c) 0) (stop_word e (account_of (held_after x)) (length c.slice - x.reply.values)) []

  pub promised : {x : Granted} → x ≡ granted lent held c → GrantIs lent held c x
  promised q =
      record {
        given = q;
        number = ap (λ (g : Granted). outcome_number g.reply.outcome) q ∙ grant-number lent held c;
        word = ap (λ (g : Granted). outcome_word g.reply.outcome) q ∙ grant-word lent held c ∙ ap word_given (sym q);
      }

  pub grant-refuses : (r : Answer AcceptedGrant Refusal) (x : Refusal) → IsErr r × IsErrAnd r (λ y. y ≡ x) → refusal_number_of x ≡ grant_refusal e account c →
      GrantIs lent held c (record { reply = grant_answer held.rec r; memory = held.memory; slice = c.slice })
  grant-refuses r x h q = promised (grant-answered lent held c r x h q)

  -- What passed checks say.
  module _ (passed : 0 ≡ grant_refusal e account c) where
    pub fits : GrantFits e account c
    fits = grant-accepted e account c (sym passed)

    sound : AccountSound e account
    sound = record-sound e account fits.record-fits fits.start.sized

    pub heads-fit : HeadsFit held.rec
    heads-fit =
        record {
          low = sound.state.low;
          high = sound.state.high;
          above = sound.low;
          deepest-high = sound.high;
          cells = (limits e.parameters fits.start.fit).s-high;
        }

    -- The cycles before the run, and those granted with it.
    abbrev before : ℕ
    before = held.rec.spent

    abbrev total : ℕ
    total = held.rec.granted + c.cycles

    module _ (start : Core) (peak : ℕ) (at-start : state_in start held.memory ≡ account.state) (is-peak : pos peak -ℤ pos 1 ≡ held.rec.deepest) where
      pub runnable : peak ≤ e.parameters.s → Runnable e start peak before total held.memory
      runnable h = record { sound = rw at-start sound.state; paid = omega (arith, sound.spent); peak-high = h }

      -- Where the run stops is what the definition hands back.
      handed-back : granted_by e.parameters (hand_back account c (stop_at e start peak before total held.memory c.slice)) ≡ granted lent held c
      unfolding granted accept
      handed-back = rw (lists.grant-accepted (Tak e) (grant_refusal e) account c (sym passed), at-start, is-peak)

      module _ {r : Ran} {memory' : Memory} {out' : List ℤ} (ran : RunIs e start peak before total held.memory c.slice r memory' out') where
        abbrev record_at : State → (spent : ℕ) → (deepest : ℤ) → Record
        record_at s spent deepest = record_of e.parameters (record { state = s; granted = total; spent = spent; deepest = deepest })

        pub grant-accepts : {rec' : Record} → rec' ≡ record_at (state_in r.core memory') r.spent (pos r.peak -ℤ pos 1) →
            GrantIs lent held c
            (record {
              reply = record { outcome = Stopped r.ending; rec = rec'; values = r.count; cycles = r.spent - before };
              memory = memory';
              slice = out';
            })
        unfolding hand_back
        grant-accepts q = promised (rw q same ∙ handed-back)
          where
            same : record {
              reply = record {
                outcome = Stopped r.ending;
                rec = record_at (state_in r.core memory') r.spent (pos r.peak -ℤ pos 1);
                values = r.count;
                cycles = r.spent - before;
              };
              memory = memory';
              slice = out';
            }
                ≡ granted_by e.parameters (hand_back account c (stop_at e start peak before total held.memory c.slice))
            same i =
                record {
                  reply = record {
                    outcome = Stopped (ran.ending i);
                    rec = record_at (ran.state i) (ran.spent i) (ran.deepest i);
                    values = ran.count i;
                    cycles = ran.spent i - before;
                  };
                  memory = record { registers = (ran.state i).registers; cells = (ran.state i).cells };
                  slice = ran.slice i;
                }
