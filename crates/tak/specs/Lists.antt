-- Lists of calls of tak_grant after a call of tak_start, known by what they were lent, returned and left alone, and demand 3 of them.
use Rattle.std.specs.Prelude.{List, [], ◌∷◌, ◌≡◌, ℤ}
use Rattle.model.specs.Calls.{Held, environment_for, Granted}
use Rattle.model.specs.Demand.{Demand3, KeepsDeepest}
use Rattle.model.specs.Grants.{Call}
use Rattle.model.specs.Step.{Environment}
use Rattle.tak.specs.Calls.{Slices, held_in, GrantCall, grant_replied, tak_grant}
use Rattle.tak.specs.Records.{at, fields_of}

-- From the slices `s`: the calls, what each returned and left, and the slices after the last one. Each is lent the slices that the one before it
-- left and the same image and input, and nobody else writes these meanwhile.
pub data Chain (e : Environment) : (s : Slices) → List Call → List GrantCall → (last : Slices) → Type 0 where
  nothing : {s : Slices} → Chain e s [] [] s
  called : {s last : Slices} {c : Call} {x : GrantCall} {cs : List Call} {xs : List GrantCall} →
      tak_grant (environment_for e (held_in s)) s c ≡ x →
      Chain e x.slices cs xs last →
      Chain e s (c ∷ cs) (x ∷ xs) last

-- What calls return and leave that document 01 answers by xs, from a record slice on.
unfoldable pub all_replied : (fields : List ℤ) → List Granted → List GrantCall
all_replied fields [] = []
all_replied fields (x ∷ xs) = grant_replied x fields ∷ all_replied (grant_replied x fields).slices.fields xs

-- REQUEST E1 of one accepted call from C, on any slices: it returned and left what a grant does of which request E1 holds.
pub record CallKeepsDeepest (e : Environment) (s : Slices) (answer : GrantCall) : Type 0 where
  pub given : Granted
  pub keeps : KeepsDeepest e (held_in s) given
  pub answered : answer ≡ grant_replied given s.fields
  -- so that the record slice after it has the figure at its last position
  pub figure : at answer.slices.fields 11 ≡ given.reply.rec.deepest

-- DEMAND 3 of calls from C: they returned and left what grants do of which demand 3 holds.
pub record CallsDemand3 (e : Environment) (fields : List ℤ) (calls : List Call) (answers : List GrantCall) (last : Slices) : Type 0 where
  pub given : List Granted
  pub held : Held
  pub demand3 : Demand3 e calls given held
  pub answered : answers ≡ all_replied fields given
  pub left : last ≡ record { fields = fields_of held.rec; memory = held.memory }
