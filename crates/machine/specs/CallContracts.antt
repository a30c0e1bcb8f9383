-- What start and grant promise: the reply and the buffers after the call are the definitions'.
use Rattle.std.specs.Prelude.{ℕ, ◌-◌, cond, [], ◌≡◌, eqb, length}
use Rattle.model.specs.Calls.{Held, Started, started, Granted, granted, environment_for, held_after, grant_refusal, account_of, outcome_number, outcome_word, stop_word}
use Rattle.model.specs.Grants.{Call}
use Rattle.model.specs.Step.{Environment, Memory}

-- Start's promise.
pub record StartIs (e : Environment) (m : Memory) (x : Started) : Type 0 where
  pub given : x ≡ started e m

-- Grant's promise. The paper's number of its outcome is that of the first check that does not pass, 0 if all do. The paper's word of its ending
-- is that of the record and memory handed back, with the room left in the output slice; a refusal has none.
module _ (e : Environment) (h : Held) (c : Call) where
  abbrev own : Environment
  own = environment_for e h

  abbrev refusal : ℕ
  refusal = grant_refusal own (account_of h) c

  pub record GrantIs (x : Granted) : Type 0 where
    pub given : x ≡ granted e h c
    pub number : outcome_number x.reply.outcome ≡ refusal
    pub word : outcome_word x.reply.outcome
        ≡ cond (eqb refusal 0) (stop_word own (account_of (held_after x)) (length c.slice - x.reply.values)) []
