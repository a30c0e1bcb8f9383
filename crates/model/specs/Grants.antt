-- Document 01, "Grants and their endings": a grant, and what is worked out for each grant of a list, over the abstract machine.
use Rattle.std.specs.Prelude.{ℕ, zero, suc, ◌+◌, ◌-◌, ◌≤◌, ◌<◌, ◌≡◌, List, [], ◌∷◌, ◌++◌, ℤ, length, drop}
use Rattle.std.proofs.Math.Option.{Option, some}
use Rattle.model.specs.declared.Ending.{Ending}
use Rattle.model.specs.declared.Ending.TheVariants.{Paused}
use Rattle.model.specs.Machine.{Machine, greater, Look, stops, goes, after, outputs, costs, deepest_after, look_at}

-- Document 01's grant brings cycles and an output slice, whose length is its room.
pub record Call : Type 0 where
  pub cycles : ℕ
  pub slice : List ℤ

-- What comes of a grant: the refusal's number, or the ending of an accepted one.
pub data Outcome : Type 0 where
  Refused : (refusal : ℕ) → Outcome
  Stopped : Ending → Outcome

-- What a grant replies: the refusal or ending, "the number of values written and the cycles spent in this call".
pub record Reply : Type 0 where
  pub outcome : Outcome
  pub count : ℕ
  pub cycles : ℕ

-- The record and memory: the machine's state, granted and spent, and the greatest SHR since start.
pub record Account (St : Type 0) : Type 0 where
  pub state : St
  pub granted : ℕ
  pub spent : ℕ
  pub deepest : ℤ

-- What a grant hands back: the reply, the record and memory, and the slice as it then stands.
pub record Result (St : Type 0) : Type 0 where
  pub reply : Reply
  pub account : Account St
  pub slice : List ℤ

-- Where a grant stands: the state, the cycles spent and the greatest SHR since start, and the values that this grant has written.
pub record RunState (St : Type 0) : Type 0 where
  pub state : St
  pub spent : ℕ
  pub deepest : ℤ
  pub written : List ℤ

-- Where it stopped, and how.
pub record Stop (St : Type 0) : Type 0 where
  pub ending : Ending
  pub at : RunState St

-- The ending of the last accepted grant, if there is one; `e` stands for the grants before the list.
unfoldable pub last_ending : Option Ending → List Reply → Option Ending
last_ending e [] = e
last_ending e (r ∷ rs) = elim r.outcome [ Refused n ↦ last_ending e rs | Stopped e' ↦ last_ending (some e') rs ]

-- "the accepted grants together": the sum of their cycles.
unfoldable pub total : List Call → List Reply → ℕ
total [] rs = 0
total (c ∷ cs) [] = 0
total (c ∷ cs) (r ∷ rs) = elim r.outcome [ Refused n ↦ total cs rs | Stopped e ↦ c.cycles + total cs rs ]

module _ {St : Type 0} where
  -- Where a grant begins: it has written nothing yet.
  abbrev pub beginning : Account St → RunState St
  beginning a = record { state = a.state; spent = a.spent; deepest = a.deepest; written = [] }

  -- The record and memory where a grant stopped.
  abbrev pub account_after : Account St → Call → Stop St → Account St
  account_after a c t = record { state = t.at.state; granted = a.granted + c.cycles; spent = t.at.spent; deepest = t.at.deepest }

  -- What an accepted grant hands back, from where it stopped: its values in front, "the rest keeps its contents".
  unfoldable pub hand_back : Account St → Call → Stop St → Result St
  hand_back a c t =
      let w = t.at.written in
      record {
        reply = record { outcome = Stopped t.ending; count = length w; cycles = t.at.spent - a.spent };
        account = account_after a c t;
        slice = w ++ drop (length w) c.slice;
      }

  -- "a refused grant the record it was given, 0 values and 0 cycles"
  unfoldable pub refuse : ℕ → Account St → Call → Result St
  refuse n a c = record { reply = record { outcome = Refused n; count = 0; cycles = 0 }; account = a; slice = c.slice }

module _ (M : Machine) where
  open M use {St, fresh, shr, cost, values, step}

  -- "Otherwise the step runs and spent rises by the cost." Request E1: "the greatest of the old one and the SHR after each step".
  unfoldable pub advance : RunState St → RunState St
  advance a =
      let next = step a.state in
      record {
        state = next;
        spent = a.spent + cost a.state;
        deepest = greater a.deepest (shr next);
        written = a.written ++ values a.state;
      }

  -- What a grant finds where it stands.
  abbrev pub look_from : (granted room : ℕ) → RunState St → Look
  look_from granted room a = look_at M a.state (granted - a.spent) (room - length a.written)

  -- Look; stop, or step and look again. The fuel is never used up (proofs/Loop.antt).
  unfoldable pub loop : (granted room fuel : ℕ) → RunState St → Stop St
  loop granted room zero a = record { ending = Paused; at = a }
  loop granted room (suc n) a =
      elim (look_from granted room a) [
        | stops e ↦ record { ending = e; at = a }
        | goes ↦ loop granted room n (advance a)
      ]

  -- "then looks and steps as above from there until one of the endings holds"
  unfoldable pub run : (granted room : ℕ) → RunState St → Stop St
  run granted room a = loop granted room (suc (granted - a.spent)) a

  -- "A grant adds its cycles to granted."
  unfoldable pub accept : Account St → Call → Result St
  accept a c = hand_back a c (run (a.granted + c.cycles) (length c.slice) (beginning a))

  -- WHAT IS WORKED OUT, over the machine's run alone. After the first i instructions, of which the first m came before this grant:
  -- granted less their costs, and the room less the values that its own steps wrote.
  unfoldable pub look_after : (granted room m i : ℕ) → Look
  look_after granted room m i = look_at M (after M i) (granted - costs M i) (room - (length (outputs M i) - length (outputs M m)))

  -- "Grant's checks are taken at the state of demand 3's machine after the steps before it, with granted .. and spent as ..", and the deepest SHR
  -- as the greatest over the states so far (request E1).
  abbrev pub account_at : (m granted : ℕ) → Account St
  account_at m granted = record { state = after M m; granted = granted; spent = costs M m; deepest = deepest_after M m }

  -- An accepted grant "looks and steps as above from there until one of the endings holds": from m to n.
  pub record Runs (granted room m n : ℕ) (e : Ending) : Type 0 where
    pub forward : m ≤ n
    pub on : (i : ℕ) → m ≤ i → i < n → look_after granted room m i ≡ goes
    pub off : look_after granted room m n ≡ stops e

  -- Grant's checks: 0 accepts, another number refuses.
  module _ (refusal : Account St → Call → ℕ) where
    -- A grant: its checks, then its run.
    unfoldable pub grant : Account St → Call → Result St
    grant a c = elim (refusal a c) [ zero ↦ accept a c | suc n ↦ refuse (suc n) a c ]

    -- The replies to a list of calls, from m instructions and `g` cycles granted before it to n and g' after it.
    -- "A refused one takes no step and adds no cycles"; "its values and cycles spent are those of its own steps".
    pub data Trace : (m g : ℕ) → List Call → List Reply → (n g' : ℕ) → Type 0 where
      nothing : {m g : ℕ} → Trace m g [] [] m g
      refuses : {m g n g' k : ℕ} {c : Call} {cs : List Call} {rs : List Reply} →
          refusal (account_at m g) c ≡ suc k →
          Trace m g cs rs n g' →
          Trace m g (c ∷ cs) (record { outcome = Refused (suc k); count = 0; cycles = 0 } ∷ rs) n g'
      accepts : {m g l n g' : ℕ} {e : Ending} {c : Call} {cs : List Call} {rs : List Reply} →
          refusal (account_at m g) c ≡ 0 →
          Runs (g + c.cycles) (length c.slice) m l e →
          Trace l (g + c.cycles) cs rs n g' →
          Trace m g (c ∷ cs)
          (record { outcome = Stopped e; count = length (outputs M l) - length (outputs M m); cycles = costs M l - costs M m } ∷ rs) n g'
