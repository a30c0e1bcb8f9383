-- Demand 3: one statement about every list of grants from an accepted start; and request E1 of one grant on any record.
use Rattle.std.specs.Prelude.{ℕ, ◌+◌, ◌≡◌, true, List, [], ◌∷◌, ◌++◌, map, ℤ, pos, ◌-ℤ◌, take}
use Rattle.std.proofs.Math.Option.{none, some}
use Rattle.std.specs.Int.Signed.{le_z}
use Rattle.model.specs.declared.Ending.TheVariants.{OutputFull}
use Rattle.model.specs.Machine.{Greatest, later, after, outputs, costs_from, costs, figures_from, ReachesFrom, Reaches, Largest}
use Rattle.model.specs.Grants.{Call, Reply, last_ending, total, Trace}
use Rattle.model.specs.Step.{Environment, State, Tak}
use Rattle.model.specs.Calls.{Held, environment_for, held_after, Granted, granted, memory_of, record_fits, grant_refusal, account_of}

-- What each grant of a list gives, by the definition. "Image and input are the same throughout."
unfoldable pub all_granted : Environment → Held → List Call → List Granted
all_granted e h [] = []
all_granted e h (c ∷ cs) = let x = granted e h c in x ∷ all_granted e (held_after x) cs

-- What the list leaves.
unfoldable pub held_after_all : Environment → Held → List Call → Held
held_after_all e h [] = h
held_after_all e h (c ∷ cs) = held_after_all e (held_after (granted e h c)) cs

-- "the refusal or ending, the number of values and the cycles"
abbrev pub reply_of : Granted → Reply
reply_of x = record { outcome = x.reply.outcome; count = x.reply.values; cycles = x.reply.cycles }

-- "Joined outputs are the values that the accepted grants wrote, in the list's order, each as it stood when its grant returned."
unfoldable pub joined_outputs : List Granted → List ℤ
joined_outputs [] = []
joined_outputs (x ∷ xs) = take x.reply.values x.slice ++ joined_outputs xs

module _ (e : Environment) where
  -- "IAR, IRCR, SHR, input place, memory and joined outputs are those after the first m instructions of document 01's machine and the count
  -- is the sum of their costs." The count "is spent in the last record".
  pub record IsAfter (m : ℕ) (h : Held) (joined : List ℤ) : Type 0 where
    pub instructions : Reaches (Tak e) m
    pub iar : h.rec.iar ≡ (after (Tak e) m).iar
    pub ircr : h.rec.ircr ≡ (after (Tak e) m).ircr
    pub shr : h.rec.shr ≡ (after (Tak e) m).shr
    pub place : h.rec.place ≡ (after (Tak e) m).place
    pub memory : h.memory ≡ memory_of (after (Tak e) m)
    pub outs : joined ≡ outputs (Tak e) m
    pub count : h.rec.spent ≡ costs (Tak e) m

  module _ (calls : List Call) (given : List Granted) (last : Held) where
    -- what each grant replied
    abbrev replied : List Reply
    replied = map reply_of given

    -- DEMAND 3 of the list of grants `calls`: `given` is what each grant gave, `last` the record and memory after the list.
    pub record Demand3 : Type 0 where
      -- "there is exactly one m such that"
      pub m : ℕ
      pub is-after : IsAfter m last (joined_outputs given)
      pub only : (n : ℕ) → IsAfter n last (joined_outputs given) → n ≡ m
      -- "Each grant gives exactly the refusal or ending, the number of values and the cycles that document 01 works out for it in that list."
      pub replies : Trace (Tak e) (grant_refusal e) 0 0 calls replied m (total calls replied)
      pub replies-only : (rs : List Reply) (n g : ℕ) → Trace (Tak e) (grant_refusal e) 0 0 calls rs n g → rs ≡ replied
      -- "If the list has no accepted grant, or the last accepted one did not stop for a full output, m is the largest number of instructions
      -- in that machine's run whose costs sum to at most the accepted grants together."
      pub largest : ¬ (last_ending none replied ≡ some OutputFull) → Largest (Tak e) m (total calls replied)
      -- Request E1: "after every list of grants it equals the greatest SHR over the states of the run so far", those after 0 .. m instructions.
      pub deepest : Greatest (λ i. (after (Tak e) i).shr) m last.rec.deepest
      -- granted in the last record is the accepted grants together, and the parameters are the start's
      pub granted-sum : last.rec.granted ≡ total calls replied
      pub parameters : last.rec.parameters ≡ e.parameters

-- REQUEST E1 of one accepted grant, on any record and memory `h`, with the parameters of the record: x is what it gave.
module _ (lent : Environment) (h : Held) where
  abbrev own : Environment
  own = environment_for lent h

  abbrev begins : State
  begins = (account_of h).state

  pub record KeepsDeepest (x : Granted) : Type 0 where
    -- The call's own steps: they run, lead to the record and memory handed back, and cost what was spent. No other number of steps costs that.
    pub steps : ℕ
    pub reaches : ReachesFrom (Tak own) begins steps
    pub state : (account_of (held_after x)).state ≡ later (Tak own) steps begins
    pub spent : x.reply.rec.spent ≡ h.rec.spent + costs_from (Tak own) begins steps
    pub only : (n : ℕ) → ReachesFrom (Tak own) begins n → x.reply.rec.spent ≡ h.rec.spent + costs_from (Tak own) begins n → n ≡ steps
    -- "On any accepted record the new figure is the greatest of the old one and the SHR after each step of the call."
    pub greatest : Greatest (figures_from (Tak own) h.rec.deepest begins) steps x.reply.rec.deepest
    -- "Every accepted grant keeps it between SHR and S-1", so that the record, whose parameters stay, passes 15 again.
    pub low : le_z x.reply.rec.shr x.reply.rec.deepest ≡ true
    pub high : le_z x.reply.rec.deepest (pos h.rec.parameters.s -ℤ pos 1) ≡ true
    pub parameters : x.reply.rec.parameters ≡ h.rec.parameters
    pub passes : record_fits own (account_of (held_after x)) ≡ true
