-- What an accepted grant was given is exact: each number is the field's own. And a record that an accepted call wrote is read back as it is.
-- Assumes nothing.
use Prim.Native.Nat.{ℕ, zero, suc, ◌+◌, ◌≤◌, ◌<◌}
use mathlib.Core.Bool.{Bool, true, false, cond}
use mathlib.Core.List.{List, [], ◌∷◌}
use mathlib.Core.Path.{◌≡◌, refl, sym, ◌∙◌}
use native.Mathlib.Omega.{arith}
use lib.Dec.{leb}
use lib.IntN.{ℤ, pos, negsuc}
use lib.ListN.{length, drop, drop_of_length-le}
use lib.Seq.{drop-cons}
use borrow.Author.Tests.{eq-eqb, le-leb}
use Rattle.model.proofs.Fits.{limits, grant-accepted}
use Rattle.model.proofs.GrantKeeps.{record-sound, grant-kept}
use Rattle.model.proofs.Refusals.{grant-number}
use Rattle.model.specs.Calls.{Held, environment_for, fresh_record, account_of, granted, grant_refusal, outcome_number}
use Rattle.model.specs.Grants.{Account, Call}
use Rattle.model.specs.Parameters.{Fit}
use Rattle.model.specs.Step.{Environment, State}
use Rattle.model.specs.declared.Parameters.{Parameters}
use Rattle.model.specs.declared.Record.{Record}
use Rattle.tak.specs.Calls.{Slices, held_in, tak_grant}
use Rattle.tak.specs.Records.{held, most32, most64, at, record_from, fields_of, record_length}

-- EXACT
-- A number that is held as less than the greatest is held as itself.
held_exact : (most : ℕ) (z : ℤ) → held most z < most → pos (held most z) ≡ z
unfolding held
held_exact most (pos n) h = go (leb n most) h
  where
    go : (b : Bool) → cond b n most < most → pos (cond b n most) ≡ pos n
    go true l = refl
    go false l = absurd (omega arith)
held_exact most (negsuc n) h = absurd (omega arith)

-- n elements from the i-th on.
abbrev elements : (n i : ℕ) → List ℤ → List ℤ
elements zero i l = []
elements (suc n) i l = at l i ∷ elements n (suc i) l

all-elements : (n i : ℕ) (l : List ℤ) → i + n ≡ length l → elements n i l ≡ drop i l
all-elements zero i l h = sym (drop_of_length-le l {i = i} (omega arith))
all-elements (suc n) i l h = rw (all-elements n (suc i) l (omega arith)) (sym (drop-cons l i (pos 0) (omega arith)))

module _ (lent : Environment) (s : Slices) (c : Call) where
  abbrev fields : List ℤ
  fields = s.fields

  abbrev e : Environment
  e = environment_for lent (held_in s)

  abbrev account : Account State
  account = account_of (held_in s)

  fields_exact : length fields ≡ record_length → grant_refusal e account c ≡ 0 → fields_of (record_from fields) ≡ fields
  fields_exact h r =
      let g = grant-accepted e account c r in
      let l = limits (record_from fields).parameters g.start.fit in
      let a = record-sound e account g.record-fits g.start.sized in
      let same : fields_of (record_from fields) ≡ elements record_length 0 fields =
      λ i.
      held_exact most32 (at fields 0) (omega (arith, l.k-high)) i
      ∷ held_exact most32 (at fields 1) (omega (arith, l.n-high)) i
      ∷ held_exact most32 (at fields 2) (omega (arith, l.s-high)) i
      ∷ held_exact most32 (at fields 3) (omega (arith, l.b-high, l.s-high)) i
      ∷ held_exact most32 (at fields 4) (omega (arith, l.t-high)) i
      ∷ held_exact most32 (at fields 5) (omega (arith, a.state.iar, l.t-high)) i
      ∷ held_exact most32 (at fields 6) (omega (arith, a.state.ircr)) i
      ∷ at fields 7
      ∷ held_exact most64 (at fields 8) (omega (arith, a.state.place, g.input-length)) i
      ∷ held_exact most64 (at fields 9) (omega (arith, a.granted)) i
      ∷ held_exact most64 (at fields 10) (omega (arith, a.spent, a.granted)) i
      ∷ at fields 11
      ∷ [] in
      same ∙ all-elements record_length 0 fields (omega arith)

  -- An accepted call of `tak_grant` was given the numbers of a record.
  pub accepted_exact : length fields ≡ record_length → (tak_grant lent s c).number ≡ 0 →
      fields_of (record_from fields) ≡ fields
  unfolding tak_grant
  accepted_exact h z =
      let n : outcome_number (granted lent (held_in s) c).reply.outcome ≡ 0 =
      rw (eq-eqb (length fields) record_length h) at z in
      fields_exact h (sym (grant-number lent (held_in s) c) ∙ n)

-- READ BACK
-- Every field is one that its bits hold.
pub record Fitting (r : Record) : Type 0 where
  pub k : r.parameters.k ≤ most32
  pub n : r.parameters.n ≤ most32
  pub s : r.parameters.s ≤ most32
  pub b : r.parameters.b ≤ most32
  pub t : r.parameters.t ≤ most32
  pub iar : r.iar ≤ most32
  pub ircr : r.ircr ≤ most32
  pub place : r.place ≤ most64
  pub granted : r.granted ≤ most64
  pub spent : r.spent ≤ most64

held_back : (most n : ℕ) → n ≤ most → held most (pos n) ≡ n
unfolding held
held_back most n h = rw (le-leb n most h)

pub read_back : (r : Record) → Fitting r → record_from (fields_of r) ≡ r
read_back r h i =
    record {
      parameters = record {
        k = held_back most32 r.parameters.k h.k i;
        n = held_back most32 r.parameters.n h.n i;
        s = held_back most32 r.parameters.s h.s i;
        b = held_back most32 r.parameters.b h.b i;
        t = held_back most32 r.parameters.t h.t i;
      };
      iar = held_back most32 r.iar h.iar i;
      ircr = held_back most32 r.ircr h.ircr i;
      shr = r.shr;
      place = held_back most64 r.place h.place i;
      granted = held_back most64 r.granted h.granted i;
      spent = held_back most64 r.spent h.spent i;
      deepest = r.deepest;
    }

pub fresh-fitting : (p : Parameters) → Fit p → Fitting (fresh_record p)
fresh-fitting p f =
    let l = limits p f in
    record {
      k = omega (arith, l.k-high);
      n = omega (arith, l.n-high);
      s = omega (arith, l.s-high);
      b = omega (arith, l.b-high, l.s-high);
      t = omega (arith, l.t-high);
      iar = omega arith;
      ircr = omega arith;
      place = omega arith;
      granted = omega arith;
      spent = omega arith;
    }

pub granted-fitting : (e : Environment) (held : Held) (c : Call) → grant_refusal (environment_for e held) (account_of held) c ≡ 0 →
    Fitting (granted e held c).reply.rec
unfolding granted
granted-fitting e held c z =
    let g = grant-accepted (environment_for e held) (account_of held) c z in
    let a = (grant-kept (environment_for e held) (account_of held) c z).sound in
    let l = limits held.rec.parameters g.start.fit in
    record {
      k = omega (arith, l.k-high);
      n = omega (arith, l.n-high);
      s = omega (arith, l.s-high);
      b = omega (arith, l.b-high, l.s-high);
      t = omega (arith, l.t-high);
      iar = omega (arith, a.state.iar, l.t-high);
      ircr = omega (arith, a.state.ircr);
      place = omega (arith, a.state.place, g.input-length);
      granted = omega (arith, a.granted);
      spent = omega (arith, a.spent, a.granted);
    }
