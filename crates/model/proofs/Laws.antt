-- Laws of a machine's run and of looking. Assumes nothing.
use Prim.Native.Nat.{ℕ, zero, suc, ◌-◌, ◌≤◌, ◌<◌}
use mathlib.Core.Path.{◌≡◌, refl}
use mathlib.Core.Bool.{Bool, true, false}
use mathlib.Core.Logic.{◌⊎◌, inl, inr}
use native.Mathlib.Omega.{arith}
use native.Mathlib.Decide.{dec_lt}
use native.Mathlib.Nat.{le_refl, eq-or-lt_of_le}
use lib.ListN.{length}
use borrow.Author.Tests.{ltb-false}
use Rattle.model.specs.declared.Ending.{Ending}
use Rattle.model.specs.declared.Ending.TheVariants.{OutputFull}
use Rattle.model.specs.Machine.{Machine, Status, running, stops, goes, look, look_at, later, over, after, costs_from, costs, ReachesFrom, Reaches, Largest, Priced}
use Rattle.std.proofs.Common.{rules}

-- What `look` says, read backwards.
look-goes : (u : Status) (short crowded : Bool) → look u short crowded ≡ goes → (u ≡ running) × (short ≡ false) × (crowded ≡ false)
unfolding look
look-goes Status.failed short crowded h = (cc, cc, cc)
look-goes Status.ended short crowded h = (cc, cc, cc)
look-goes running true crowded h = (cc, cc, cc)
look-goes running false true h = (cc, cc, cc)
look-goes running false false h = (refl, refl, refl)

-- A look that stops, though not for a full output: the run is over, or the next step is too dear.
pub look-stops : (u : Status) (short crowded : Bool) (e : Ending) → look u short crowded ≡ stops e → ¬ (e ≡ OutputFull) → u ≡ running → short ≡ true
unfolding look
look-stops Status.failed short crowded e h f r = cc
look-stops Status.ended short crowded e h f r = cc
look-stops running true crowded e h f r = refl
look-stops running false true e h f r = absurd (f cc)
look-stops running false false e h f r = cc

module _ (M : Machine) where
  open M use {St, fresh, status, cost, values, step}

  -- A look that goes on: the state runs, its step is paid for, and its values have room.
  pub record Goes (s : St) (allowance room : ℕ) : Type 0 where
    pub run : status s ≡ running
    pub paid : cost s ≤ allowance
    pub room_for : length (values s) ≤ room

  pub going : (s : St) (allowance room : ℕ) → look_at M s allowance room ≡ goes → Goes s allowance room
  unfolding look_at
  going s allowance room h =
      let (run, paid, fits) = look-goes (status s) _ _ h in
      record { run = run; paid = ltb-false allowance (cost s) paid; room_for = ltb-false room (length (values s)) fits }

  -- The cost sum from a state never falls.
  pub costs_le : (s : St) (m n : ℕ) → m ≤ n → costs_from M s m ≤ costs_from M s n
  unfolding over
  costs_le s m zero h = let e : m ≡ 0 = omega arith in rw e (le_refl _)
  costs_le s m (suc n) h = go (eq-or-lt_of_le h) (costs_le s m n)
    where
      go : (m ≡ suc n) ⊎ (m < suc n) → (m ≤ n → costs_from M s m ≤ costs_from M s n) → costs_from M s m ≤ costs_from M s (suc n)
      go (inl e) ih = rw e (le_refl _)
      go (inr l) ih = omega (arith, ih (omega arith))

  pub reaches-suc : (m : ℕ) → Reaches M m → status (after M m) ≡ running → Reaches M (suc m)
  reaches-suc m r h i l = search rules

  -- Where the run is over, or the next step is too dear, m is the largest.
  pub largest : (m total : ℕ) → Reaches M m → costs M m ≤ total → (status (after M m) ≡ running → total - costs M m < cost (after M m)) → Largest M m total
  unfolding over
  largest m total r f stop = record { reaches = r; fits = f; most = λ n rn fn. go n rn fn (dec_lt m n) }
    where
      go : (n : ℕ) → Reaches M n → costs M n ≤ total → Dec (m < n) → n ≤ m
      go n rn fn (no k) = omega arith
      go n rn fn (yes k) = absurd (omega (arith, costs_le fresh (suc m) n k, stop (rn m k)))

  module _ (priced : Priced M) where
    -- It rises with each step that runs.
    pub costs_lt : (s : St) (m n : ℕ) → ReachesFrom M s n → m < n → costs_from M s m < costs_from M s n
    unfolding over
    costs_lt s m zero r h = absurd (omega arith)
    costs_lt s m (suc n) r h = omega (arith, costs_le s m n (omega arith), priced (later M n s) (r n (omega arith)))

    -- So it tells the number of steps.
    pub costs_inj : (s : St) (m n : ℕ) → ReachesFrom M s m → ReachesFrom M s n → costs_from M s m ≡ costs_from M s n → m ≡ n
    costs_inj s m n rm rn h = go (dec_lt m n) (dec_lt n m)
      where
        go : Dec (m < n) → Dec (n < m) → m ≡ n
        go (yes a) d = absurd (omega (arith, costs_lt s m n rn a))
        go (no a) (yes b) = absurd (omega (arith, costs_lt s n m rm b))
        go (no a) (no b) = omega arith

    -- Nothing pays for nothing.
    pub largest-none : Largest M 0 0
    unfolding over
    largest-none = search rules
