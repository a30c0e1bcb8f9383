-- Demand 3 over any machine whose steps cost something, from the state that start makes. Assumes nothing.
use Prim.Native.Nat.{ℕ, zero, suc, ◌+◌, ◌≤◌}
use mathlib.Core.Path.{◌≡◌, refl, sym, ap, ◌∙◌}
use mathlib.Core.List.{List, [], ◌∷◌, ◌++◌, append_assoc, append-nil}
use mathlib.Core.Option.{Option, none, some}
use native.Mathlib.Omega.{arith}
use native.Mathlib.Nat.{le_refl}
use lib.IntN.{ℤ}
use lib.ListN.{take}
use Rattle.model.specs.declared.Ending.{Ending}
use Rattle.model.specs.declared.Ending.TheVariants.{OutputFull}
use Rattle.model.specs.Machine.{Machine, later, over, after, outputs, costs, deepest_after, Reaches, Largest, Priced}
use Rattle.model.specs.Grants.{Account, Call, Result, Reply, last_ending, account_at, total, accept, refuse, grant, Trace, nothing, refuses, accepts}
use Rattle.model.proofs.Laws.{costs_inj, largest-none}
use Rattle.model.proofs.One.{Accepted, accept-runs, runs-only}

module _ {St : Type 0} where
  -- The replies of a list.
  unfoldable pub replies : List (Result St) → List Reply
  replies [] = []
  replies (x ∷ xs) = x.reply ∷ replies xs

  -- The values that the grants wrote, in order, each as it stood in its slice.
  unfoldable pub joined : List (Result St) → List ℤ
  joined [] = []
  joined (x ∷ xs) = take x.reply.count x.slice ++ joined xs

module _ (M : Machine) where
  open M use {St, fresh, shr}

  -- "the state that start makes", with nothing granted or spent, and its own SHR the deepest
  unfoldable pub start : Account St
  start = record { state = fresh; granted = 0; spent = 0; deepest = shr fresh }

  module _ (refusal : Account St → Call → ℕ) where
    -- A list of grants: each gets the account that the one before it left.
    unfoldable pub results : Account St → List Call → List (Result St)
    results a [] = []
    results a (c ∷ cs) = grant M refusal a c ∷ results (grant M refusal a c).account cs

    -- The record and memory that a list leaves.
    unfoldable pub final : Account St → List Call → Account St
    final a [] = a
    final a (c ∷ cs) = final (grant M refusal a c).account cs

module _ (M : Machine) where
  open M use {St, fresh}

  -- The record and the joined outputs are the machine's after its first m instructions, and the count is the sum of their costs.
  pub record Stands (m : ℕ) (a : Account St) (out : List ℤ) : Type 0 where
    pub reaches : Reaches M m
    pub state : a.state ≡ after M m
    pub outs : out ≡ outputs M m
    pub count : a.spent ≡ costs M m

  module _ (refusal : Account St → Call → ℕ) where
    -- What a list of grants leaves and gives, from start.
    abbrev pub left : List Call → Account St
    left calls = final M refusal (start M) calls

    abbrev pub gave : List Call → List (Result St)
    gave calls = results M refusal (start M) calls

    pub record Demand3 (calls : List Call) : Type 0 where
      -- exactly one m
      pub m : ℕ
      pub stands : Stands m (left calls) (joined (gave calls))
      pub only : (n : ℕ) → Stands n (left calls) (joined (gave calls)) → n ≡ m
      -- the replies are those that are worked out, and no others are
      pub trace : Trace M refusal 0 0 calls (replies (gave calls)) m (total calls (replies (gave calls)))
      pub replies-only : (rs : List Reply) (n g : ℕ) → Trace M refusal 0 0 calls rs n g → rs ≡ replies (gave calls)
      -- the deepest SHR is that of the first m instructions
      pub deepest : (left calls).deepest ≡ deepest_after M m
      -- the record's granted is that of the accepted grants together
      pub granted : (left calls).granted ≡ total calls (replies (gave calls))
      -- with no accepted grant, or where the last one did not stop for a full output, m is the largest that the accepted grants pay for
      pub largest : ¬ (last_ending none (replies (gave calls)) ≡ some OutputFull) → Largest M m (total calls (replies (gave calls)))

    -- THE PROOF. A list from place m with g cycles granted, where the last ending before it was e.
    record From (m g : ℕ) (e : Option Ending) (calls : List Call) (fin : Account St) (res : List (Result St)) : Type 0 where
      n : ℕ
      g' : ℕ
      reaches : Reaches M n
      fits : costs M n ≤ g'
      account : fin ≡ account_at M n g'
      outs : outputs M n ≡ outputs M m ++ joined res
      sum : g' ≡ g + total calls (replies res)
      trace : Trace M refusal m g calls (replies res) n g'
      largest : ¬ (last_ending e (replies res) ≡ some OutputFull) → Largest M n g'

    then-accepted : (m g : ℕ) (e : Option Ending) (c : Call) (cs : List Call) (fin : Account St) (x : Result St) (res : List (Result St)) →
        refusal (account_at M m g) c ≡ 0 → (a : Accepted M m g c x) → From a.n (g + c.cycles) (some a.e) cs fin res → From m g e (c ∷ cs) fin (x ∷ res)
    unfolding joined replies total last_ending
    then-accepted m g e c cs fin x res h a t =
        record {
          n = t.n;
          g' = t.g';
          reaches = t.reaches;
          fits = t.fits;
          account = t.account;
          outs = t.outs ∙ rw (a.values, append_assoc);
          sum = rw a.reply (omega arith);
          trace = rw a.reply (accepts h a.runs t.trace);
          largest = rw a.reply t.largest;
        }

    then-refused : (m g k : ℕ) (e : Option Ending) (c : Call) (cs : List Call) (fin : Account St) (res : List (Result St)) →
        refusal (account_at M m g) c ≡ suc k → From m g e cs fin res → From m g e (c ∷ cs) fin (refuse (suc k) (account_at M m g) c ∷ res)
    unfolding joined replies total last_ending refuse
    then-refused m g k e c cs fin res h t = search refuses

    pub grant-accepted : (a : Account St) (c : Call) → refusal a c ≡ 0 → grant M refusal a c ≡ accept M a c
    unfolding grant
    grant-accepted a c h = rw (h, grant)

    pub grant-refused : (a : Account St) (c : Call) (k : ℕ) → refusal a c ≡ suc k → grant M refusal a c ≡ refuse (suc k) a c
    unfolding grant
    grant-refused a c k h = rw (h, grant)

    from : Priced M → (calls : List Call) (m g : ℕ) (e : Option Ending) → Reaches M m → costs M m ≤ g → (¬ (e ≡ some OutputFull) → Largest M m g) →
        From m g e calls (final M refusal (account_at M m g) calls) (results M refusal (account_at M m g) calls)
    unfolding final results replies total joined last_ending refuse
    from priced [] m g e r f l =
        record { n = m; g' = g; reaches = r; fits = f; account = refl; outs = sym (append-nil _); sum = omega arith; trace = nothing; largest = l }
    from priced (c ∷ cs) m g e r f l = go (refusal (account_at M m g) c) refl (from priced cs)
      where
        go : (k : ℕ) → refusal (account_at M m g) c ≡ k →
            ((m g : ℕ) (e : Option Ending) → Reaches M m → costs M m ≤ g → (¬ (e ≡ some OutputFull) → Largest M m g) →
            From m g e cs (final M refusal (account_at M m g) cs) (results M refusal (account_at M m g) cs)) →
            From m g e (c ∷ cs) (final M refusal (account_at M m g) (c ∷ cs)) (results M refusal (account_at M m g) (c ∷ cs))
        go zero h ih =
            let a = accept-runs M priced m g c r f in
            rw (grant-accepted (account_at M m g) c h)
            (then-accepted m g e c cs _ _ _ h a
            (rw a.account (ih a.n (g + c.cycles) (some a.e) a.reaches a.fits λ d. a.most λ p. d (ap some p))))
        go (suc k) h ih = rw (grant-refused (account_at M m g) c k h) (then-refused m g k e c cs _ _ h (ih m g e r f l))

    -- What is worked out is one thing: the replies, the place and the cycles granted.
    pub trace-only : (calls : List Call) (m g : ℕ) (rs rs₂ : List Reply) (n g' n₂ g₂ : ℕ) →
        Trace M refusal m g calls rs n g' → Trace M refusal m g calls rs₂ n₂ g₂ → (rs ≡ rs₂) × (n ≡ n₂) × (g' ≡ g₂)
    trace-only [] m g _ _ _ _ _ _ nothing nothing = (refl, refl, refl)
    trace-only (c ∷ cs) m g _ _ _ _ _ _ (refuses h w) (refuses h₂ w₂) =
        let (t, u, v) = trace-only cs m g _ _ _ _ _ _ w w₂ in
        (cc, u, v)
    trace-only (c ∷ cs) m g _ _ _ _ _ _ (refuses h w) (accepts h₂ a₂ w₂) = (cc, cc, cc)
    trace-only (c ∷ cs) m g _ _ _ _ _ _ (accepts h a w) (refuses h₂ w₂) = (cc, cc, cc)
    trace-only (c ∷ cs) m g _ _ _ _ _ _ (accepts {l} {e} h a w) (accepts {l = l₂} {e = e₂} h₂ a₂ w₂) =
        let (p, q) = runs-only M _ _ m l l₂ e e₂ a a₂ in
        let (t, u, v) = trace-only cs l _ _ _ _ _ _ _ w (rw (← p) at w₂) in
        (cc, u, v)

    conclude : Priced M → (calls : List Call) → From 0 0 none calls (left calls) (gave calls) → Demand3 calls
    unfolding over
    conclude priced calls t =
        let sum : t.g' ≡ total calls (replies (gave calls)) = omega arith in
        record {
          m = t.n;
          stands = record { reaches = t.reaches; state = rw t.account; outs = sym t.outs; count = rw t.account };
          only = λ n s. costs_inj M priced fresh n t.n s.reaches t.reaches (sym s.count ∙ rw t.account);
          trace = rw sum at t.trace;
          replies-only = λ rs n g w. (trace-only calls 0 0 _ _ _ _ _ _ w t.trace).0;
          deepest = rw t.account;
          granted = rw t.account sum;
          largest = rw sum at t.largest;
        }

    -- DEMAND 3 holds of every list.
    pub demand3 : Priced M → (calls : List Call) → Demand3 calls
    unfolding start over later
    demand3 priced calls = conclude priced calls (from priced calls 0 0 none (λ i l. absurd (omega arith)) (le_refl 0) λ d. largest-none M priced)
