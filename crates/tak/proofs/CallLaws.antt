-- What each exported function hands back is what the definition says, from what the functions below it promise. Assumes nothing.
use Prim.Native.Nat.{ℕ}
use mathlib.Core.Bool.{Bool, true, false, cond}
use mathlib.Core.List.{List}
use mathlib.Core.Path.{◌≡◌, refl, ◌∙◌}
use native.Mathlib.Omega.{arith}
use lib.IntN.{ℤ}
use lib.ListN.{length}
use borrow.Author.Tests.{ne_eqb}
use Rattle.model.proofs.Replies.{positive}
use Rattle.model.specs.Calls.{zero_record, Started, Granted, granted, outcome_number}
use Rattle.model.specs.Grants.{Call}
use Rattle.model.specs.Replies.{refusal_number_of, start_answer, grant_answer}
use Rattle.model.specs.Step.{Environment, with_parameters, Memory}
use Rattle.model.specs.declared.AcceptedGrant.{AcceptedGrant}
use Rattle.model.specs.declared.Refusal.{Refusal}
use Rattle.std.specs.Prelude.{Result as Answer, Ok, Err}
use Rattle.model.specs.declared.Record.{Record}
use Rattle.machine.specs.CallContracts.{StartIs, GrantIs}
use Rattle.tak.specs.Calls.{Slices, tak_start, ending_number, outcome_ending, tak_grant}
use Rattle.tak.specs.Records.{fields_of, record_after, record_from, record_length}
use Rattle.std.proofs.Common.{rules}

-- A call that returned 0 was not refused for its record slice.
pub sized : {A : Type 0} (number : A → ℕ) (b : Bool) (y z : A) → number z ≡ 100 → number (cond b y z) ≡ 0 → cond b y z ≡ y
sized number true y z h k = refl
sized number false y z h k = absurd (omega (arith, h, k))

-- The record slice: an accepted call's record is put there, and a refusal leaves it.
after-accepted : (rec : Record) (old : List ℤ) → fields_of rec ≡ record_after 0 rec old
unfolding record_after
after-accepted rec old = refl

after-refused : (r : Refusal) (rec : Record) (old : List ℤ) → old ≡ record_after (refusal_number_of r) rec old
unfolding record_after
after-refused r rec old = rw (ne_eqb (refusal_number_of r) 0 (positive r))

-- START
module _ (e : Environment) (s : Slices) where
  pub start-replied : {x : Started} {fields' : List ℤ} → length s.fields ≡ record_length → StartIs e s.memory x →
      fields' ≡ record_after x.reply.refusal x.reply.rec s.fields →
      tak_start e s ≡ record { number = x.reply.refusal; slices = record { fields = fields'; memory = x.memory } }
  unfolding tak_start
  start-replied {x} h i q = search rules

  module _ (sized : length s.fields ≡ record_length) {memory' : Memory} where
    pub start-accepted : (rec : Record) {fields' : List ℤ} → StartIs e s.memory (record { reply = start_answer (Ok rec); memory = memory' }) →
        fields' ≡ fields_of rec → tak_start e s ≡ record { number = 0; slices = record { fields = fields'; memory = memory' } }
    start-accepted rec is q = start-replied sized is (q ∙ after-accepted rec s.fields)

    pub start-refused : (r : Refusal) → StartIs e s.memory (record { reply = start_answer (Err r); memory = memory' }) →
        tak_start e s ≡ record { number = refusal_number_of r; slices = record { fields = s.fields; memory = memory' } }
    start-refused r is = start-replied sized is (after-refused r zero_record s.fields)

-- GRANT
module _ (e : Environment) (s : Slices) (c : Call) where
  pub grant-replied : {rec : Record} {x : Granted} {number ending : ℕ} {fields' : List ℤ} → length s.fields ≡ record_length →
      rec ≡ record_from s.fields → GrantIs (with_parameters rec.parameters e) (record { rec = rec; memory = s.memory }) c x →
      number ≡ outcome_number x.reply.outcome → ending ≡ outcome_ending x.reply.outcome →
      fields' ≡ record_after number x.reply.rec s.fields →
      tak_grant e s c
      ≡ record {
        number = number;
        ending = ending;
        values = x.reply.values;
        spent = x.reply.cycles;
        slices = record { fields = fields'; memory = x.memory };
        output = x.slice;
      }
  unfolding tak_grant granted
  grant-replied {rec} {x} {number} {ending} h r g n m k = search rules

  module _ (sized : length s.fields ≡ record_length) {rec : Record} (read : rec ≡ record_from s.fields) (after : Memory) (out : List ℤ) where
    abbrev Is : Answer AcceptedGrant Refusal → Type 0
    Is r =
        GrantIs (with_parameters rec.parameters e) (record { rec = rec; memory = s.memory }) c
        (record { reply = grant_answer rec r; memory = after; slice = out })

    pub grant-accepted : (g : AcceptedGrant) {ending : ℕ} {fields' : List ℤ} → Is (Ok g) → ending ≡ ending_number g.ending → fields' ≡ fields_of g.rec →
        tak_grant e s c
        ≡ record {
          number = 0;
          ending = ending;
          values = g.values;
          spent = g.cycles;
          slices = record { fields = fields'; memory = after };
          output = out;
        }
    unfolding outcome_number
    grant-accepted g is q k = grant-replied sized read is refl q (k ∙ after-accepted g.rec s.fields)

    pub grant-refused : (r : Refusal) → Is (Err r) →
        tak_grant e s c
        ≡ record {
          number = refusal_number_of r;
          ending = 0;
          values = 0;
          spent = 0;
          slices = record { fields = s.fields; memory = after };
          output = out;
        }
    unfolding outcome_number
    grant-refused r is = grant-replied sized read is refl refl (after-refused r rec s.fields)
