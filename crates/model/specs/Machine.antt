-- Document 01, "Grants and their endings": the machine of demand 3, left abstract, its run, what is gathered along it, and the look before a step.
use Rattle.std.specs.Prelude.{ℕ, zero, suc, ◌+◌, ◌≤◌, ◌<◌, ◌≡◌, Bool, true, false, cond, List, [], ◌++◌, ltb, ℤ, length}
use Rattle.std.specs.Int.Signed.{le_z}
use Rattle.model.specs.declared.Ending.{Ending}
use Rattle.model.specs.declared.Ending.TheVariants.{Failed, Ended, Paused, OutputFull}

-- A state is running, or the run is over.
pub data Status : Type 0 where
  running failed ended : Status

-- The machine "knows neither granted nor spent", nor the deepest SHR of request E1.
pub record Machine : Type 1 where
  pub St : Type 0
  -- "the state that start makes"
  pub fresh : St
  pub status : St → Status
  -- SHR, of which the record has the greatest since start (request E1)
  pub shr : St → ℤ
  -- of the step that a state would take: its cost, the values that it writes, and the state after it
  pub cost : St → ℕ
  pub values : St → List ℤ
  pub step : St → St

-- What is gathered step by step: the value at first, and what a step makes of the value, by the state before the step.
pub record Fold (St : Type 0) : Type 1 where
  pub Value : Type 0
  pub first : Value
  pub note : St → Value → Value

-- The greater of two numbers.
abbrev pub greater : ℤ → ℤ → ℤ
greater y z = cond (le_z y z) z y

-- z is the greatest of f 0 .. f m: none of them is greater, and it is one of them.
pub record Greatest (f : ℕ → ℤ) (m : ℕ) (z : ℤ) : Type 0 where
  pub bound : (i : ℕ) → i ≤ m → le_z (f i) z ≡ true
  pub index : ℕ
  pub within : index ≤ m
  pub reached : f index ≡ z

-- What a grant finds before a step.
pub data Look : Type 0 where
  stops : Ending → Look
  goes : Look

-- "it looks, in order": failed; ended; paused, if the allowance is short of the cost; output full, if the room is short of the values.
unfoldable pub look : Status → (short crowded : Bool) → Look
look failed short crowded = stops Failed
look ended short crowded = stops Ended
look running true crowded = stops Paused
look running false true = stops OutputFull
look running false false = goes

module _ (M : Machine) where
  open M use {St, fresh, status, shr, cost, values, step}

  -- "IRCR not 0 ..; IAR = T or an empty cell ..; granted - spent below the cost ..; room in the output slice below the values the step writes".
  unfoldable pub look_at : St → (allowance room : ℕ) → Look
  look_at s allowance room = look (status s) (ltb allowance (cost s)) (ltb room (length (values s)))

  -- The state k steps after a state.
  unfoldable pub later : (k : ℕ) → St → St
  later zero s = s
  later (suc k) s = step (later k s)

  -- What k steps from a state make of a value.
  unfoldable pub over : (K : Fold St) (k : ℕ) → St → K.Value → K.Value
  over K zero s v = v
  over K (suc k) s v = K.note (later k s) (over K k s v)

  -- The state "after the first m instructions".
  abbrev pub after : ℕ → St
  after m = later m fresh

  -- What the first m instructions gather.
  abbrev pub gathered : (K : Fold St) → ℕ → K.Value
  gathered K m = over K m fresh K.first

  -- "the values output so far": each step's behind those before it
  abbrev pub outputs : ℕ → List ℤ
  outputs m = gathered (record { Value = List ℤ; first = []; note = λ s w. w ++ values s }) m

  -- the sum of the costs of k steps from a state,
  abbrev pub cost_fold : Fold St
  cost_fold = record { Value = ℕ; first = 0; note = λ s n. n + cost s }

  abbrev pub costs_from : St → ℕ → ℕ
  costs_from s k = over cost_fold k s 0

  -- and of the first m instructions
  abbrev pub costs : ℕ → ℕ
  costs m = costs_from fresh m

  -- Request E1: the greatest SHR, kept step by step. That it is the greatest is proved (proofs/Deepest.antt).
  abbrev pub deepest_fold : Fold St
  deepest_fold = record { Value = ℤ; first = shr fresh; note = λ s z. greater z (shr (step s)) }

  abbrev pub deepest_after : ℕ → ℤ
  deepest_after m = gathered deepest_fold m

  -- What a call that begins at a state with an old figure keeps the greatest of: the old one, then "the SHR after each step of the call".
  abbrev pub figures_from : (old : ℤ) → St → ℕ → ℤ
  figures_from old s zero = old
  figures_from old s (suc i) = shr (later (suc i) s)

  -- "its run stops at the first failed or ended state": from a state it has at least k steps,
  abbrev pub ReachesFrom : St → ℕ → Type 0
  ReachesFrom s k = (i : ℕ) → i < k → status (later i s) ≡ running

  -- from the first at least m instructions.
  abbrev pub Reaches : ℕ → Type 0
  Reaches m = ReachesFrom fresh m

  -- m is "the largest number of instructions in that machine's run whose costs sum to at most" the total.
  pub record Largest (m total : ℕ) : Type 0 where
    pub reaches : Reaches m
    pub fits : costs m ≤ total
    pub most : (n : ℕ) → Reaches n → costs n ≤ total → n ≤ m

  -- Every step costs at least one cycle.
  abbrev pub Priced : Type 0
  Priced = (s : St) → status s ≡ running → 1 ≤ cost s
