-- DEMAND 3 of calls from C: of every list of calls of tak_grant, from a call of tak_start that returned 0. Assumes nothing.
use Prim.Native.Nat.{ℕ, zero, suc}
use mathlib.Core.List.{List, [], ◌∷◌}
use mathlib.Core.Path.{◌≡◌, refl, sym, ap, ◌∙◌}
use native.Mathlib.Omega.{arith}
use lib.Dec.{eqb}
use lib.IntN.{ℤ}
use lib.ListN.{length}
use borrow.Author.Tests.{eq-eqb, ne_eqb}
use Rattle.model.proofs.Demand.{demand3}
use Rattle.model.proofs.Fits.{start-accepted}
use Rattle.model.proofs.GrantKeeps.{started-accepted}
use Rattle.model.proofs.Refusals.{start-number, grant-refused, grant-number}
use Rattle.model.specs.Calls.{Held, environment_for, start_checks, Started, started, held_after_start, account_of, Granted, granted, held_after, grant_refusal, outcome_number}
use Rattle.model.specs.Demand.{all_granted, held_after_all}
use Rattle.model.specs.Grants.{Call}
use Rattle.model.specs.Parameters.{refusal_of}
use Rattle.model.specs.Step.{Environment, environment_of}
use Rattle.model.specs.declared.Record.{Record}
use Rattle.machine.proofs.Demand.{input-unread}
use Rattle.tak.specs.Calls.{Slices, held_in, StartCall, start_replied, tak_start, GrantCall, grant_replied, tak_grant}
use Rattle.tak.specs.Lists.{Chain, nothing, called, all_replied, CallsDemand3}
use Rattle.tak.specs.Records.{record_after, fields_of, record_length}
use Rattle.tak.proofs.CallLaws.{sized}
use Rattle.tak.proofs.Exact.{Fitting, read_back, fresh-fitting, granted-fitting}

-- The slices of a record and memory.
abbrev slices_of : Held → Slices
slices_of h = record { fields = fields_of h.rec; memory = h.memory }

-- ONE GRANT
module _ (e : Environment) (h : Held) (w : Fitting h.rec) (c : Call) where
  abbrev given : Granted
  given = granted e h c

  -- The record slice is the new record's, and the next call reads that record.
  record Next : Type 0 where
    fitting : Fitting given.reply.rec
    fields : record_after (outcome_number given.reply.outcome) given.reply.rec (fields_of h.rec) ≡ fields_of given.reply.rec

  abbrev refusal : ℕ
  refusal = grant_refusal (environment_for e h) (account_of h) c

  next : Next
  unfolding record_after outcome_number
  next = go refusal refl
    where
      go : (k : ℕ) → refusal ≡ k → Next
      go zero r =
          let n : outcome_number given.reply.outcome ≡ 0 = grant-number e h c ∙ r in
          record { fitting = granted-fitting e h c r; fields = rw (eq-eqb _ 0 n) }
      go (suc k) r = let x = grant-refused e h c k r in record { fitting = rw x w; fields = rw (x, ne_eqb (suc k) 0 (λ q. omega arith)) }

  answered : tak_grant e (slices_of h) c ≡ grant_replied given (fields_of h.rec)
  unfolding tak_grant
  answered = ap (λ (r : Record). grant_replied (granted e (record { rec = r; memory = h.memory }) c) (fields_of h.rec)) (read_back h.rec w)

  -- The slices after the call.
  after : (grant_replied given (fields_of h.rec)).slices ≡ slices_of (held_after given)
  after i = record { fields = next.fields i; memory = given.memory }

-- A grant has the parameters of its record slice, whatever those of the environment are.
own-grant : (e : Environment) (s : Slices) (c : Call) → tak_grant (environment_for e (held_in s)) s c ≡ tak_grant e s c
unfolding tak_grant granted
own-grant e s c = refl

-- A LIST OF GRANTS
record Answered (e : Environment) (h : Held) (calls : List Call) (answers : List GrantCall) (last : Slices) : Type 0 where
  answers-are : answers ≡ all_replied (fields_of h.rec) (all_granted e h calls)
  last-is : last ≡ slices_of (held_after_all e h calls)

module _ (e : Environment) where
  chain-answered : (h : Held) → Fitting h.rec → {s last : Slices} {calls : List Call} {answers : List GrantCall} → s ≡ slices_of h →
      Chain e s calls answers last → Answered e h calls answers last
  unfolding all_granted held_after_all all_replied
  chain-answered h w i nothing = record { answers-are = refl; last-is = i }
  chain-answered h w i (called {s} {c} {x} {cs} q ch) =
      let g = granted e h c in
      let n = next e h w c in
      let y : x ≡ grant_replied g (fields_of h.rec) = sym q ∙ own-grant e s c ∙ ap (λ (t : Slices). tak_grant e t c) i ∙ answered e h w c in
      let t = chain-answered (held_after g) n.fitting (ap (λ (z : GrantCall). z.slices) y ∙ after e h w c) ch in
      record {
        answers-are = (λ j. y j ∷ t.answers-are j)
            ∙ ap (λ (l : List ℤ). grant_replied g (fields_of h.rec) ∷ all_replied l (all_granted e (held_after g) cs)) (sym n.fields);
        last-is = t.last-is;
      }

-- AN ACCEPTED START
module _ (e : Environment) (s : Slices) (x : StartCall)
    (is : tak_start (environment_of e.parameters e.image []) s ≡ x) (accepted : x.number ≡ 0) where
  abbrev begun : Started
  begun = started e s.memory

  replied : x ≡ start_replied begun s.fields
  unfolding tak_start
  replied =
      sym is
      ∙ sized (λ (y : StartCall). y.number) (eqb (length s.fields) record_length) (start_replied (started _ s.memory) s.fields) _ refl
      (ap (λ (y : StartCall). y.number) is ∙ accepted)
      ∙ ap (λ (y : Started). start_replied y s.fields) (input-unread e s.memory)

  number : begun.reply.refusal ≡ 0
  number = ap (λ (y : StartCall). y.number) (sym replied) ∙ accepted

  passed : refusal_of (start_checks e s.memory) ≡ 0
  passed = sym (start-number e s.memory) ∙ number

  started-fitting : Fitting begun.reply.rec
  started-fitting = rw (started-accepted e s.memory passed) (fresh-fitting e.parameters (start-accepted e s.memory passed).fit)

  begins : x.slices ≡ slices_of (held_after_start begun)
  unfolding record_after
  begins = ap (λ (y : StartCall). y.slices) replied ∙ rw (eq-eqb _ 0 number)

  -- "A list of grants starts from the record and memory that an accepted start with the list's image left." Start is lent no input.
  pub calls-demand3 : (calls : List Call) (answers : List GrantCall) (last : Slices) → Chain e x.slices calls answers last →
      CallsDemand3 e x.slices.fields calls answers last
  calls-demand3 calls answers last ch =
      let from = held_after_start begun in
      let t = chain-answered e from started-fitting begins ch in
      record {
        given = all_granted e from calls;
        held = held_after_all e from calls;
        demand3 = demand3 e s.memory calls passed;
        answered = t.answers-are ∙ ap (λ (r : Slices). all_replied r.fields (all_granted e from calls)) (sym begins);
        left = t.last-is;
      }
