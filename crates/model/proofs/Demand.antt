-- DEMAND 3 of the TAK machine: every list of grants from an accepted start. Assumes nothing.
use Prim.Native.Nat.{ℕ}
use mathlib.Core.Path.{◌≡◌, refl, sym, ap, ◌∙◌}
use mathlib.Core.List.{List, [], ◌∷◌, ◌++◌, map}
use lib.IntN.{ℤ}
use lib.ListN.{take}
use Rattle.model.specs.declared.Parameters.{Parameters}
use Rattle.model.specs.Parameters.{refusal_of}
use Rattle.model.specs.Machine.{Machine}
use Rattle.model.specs.Grants.{Call, Reply, Account, Result, grant}
use Rattle.model.specs.Step.{Environment, Memory, State, Tak}
use Rattle.model.specs.Calls.{Held, held_after_start, start_checks, started, Granted, granted, granted_by, memory_of, record_of, grant_refusal}
use Rattle.model.specs.Demand.{all_granted, held_after_all, reply_of, joined_outputs, IsAfter, Demand3}
use Rattle.model.proofs.Fits.{start-accepted}
use Rattle.model.proofs.Costs.{priced}
use Rattle.model.proofs.Deepest.{run-greatest}
use Rattle.model.proofs.GrantKeeps.{started-accepted}
use Rattle.model.proofs.Lists.{start, results, final, joined, replies}
use Rattle.model.proofs.Lists as lists
use Rattle.std.proofs.Common.{rules}

-- The record and the memory that an account stands for.
abbrev pub held_of : Parameters → Account State → Held
held_of p a = record { rec = record_of p a; memory = memory_of a.state }

joined_is : (p : Parameters) (xs : List (Result State)) → joined_outputs (map (granted_by p) xs) ≡ joined xs
unfolding joined_outputs joined
joined_is p [] = refl
joined_is p (x ∷ xs) = ap (λ (l : List ℤ). take x.reply.count x.slice ++ l) (joined_is p xs)

replies-is : (p : Parameters) (xs : List (Result State)) → map reply_of (map (granted_by p) xs) ≡ replies xs
unfolding replies
replies-is p [] = refl
replies-is p (x ∷ xs) = ap (λ (l : List Reply). x.reply ∷ l) (replies-is p xs)

module _ (e : Environment) where
  abbrev p : Parameters
  p = e.parameters

  abbrev M : Machine
  M = Tak e

  abbrev check : Account State → Call → ℕ
  check = grant_refusal e

  -- A list of grants over records and memory is one over accounts.
  all-granted-is : (calls : List Call) (a : Account State) → all_granted e (held_of p a) calls ≡ map (granted_by p) (results M check a calls)
  unfolding all_granted results granted
  all-granted-is [] a = refl
  all-granted-is (c ∷ cs) a = ap (λ (l : List Granted). granted_by p (grant M check a c) ∷ l) (all-granted-is cs (grant M check a c).account)

  held-after-all-is : (calls : List Call) (a : Account State) → held_after_all e (held_of p a) calls ≡ held_of p (final M check a calls)
  unfolding held_after_all final granted
  held-after-all-is [] a = refl
  held-after-all-is (c ∷ cs) a = held-after-all-is cs (grant M check a c).account

  -- What a list leaves, read as an account, and what is after m instructions in its parts.
  to-stands : (m : ℕ) (a : Account State) (out out' : List ℤ) → out ≡ out' → IsAfter e m (held_of p a) out → lists.Stands M m a out'
  to-stands m a out out' h s = search rules

  to-after : (m : ℕ) (a : Account State) (out out' : List ℤ) → out ≡ out' → lists.Stands M m a out' → IsAfter e m (held_of p a) out
  to-after m a out out' h s = rw (s.state, h) search

  -- The generic theorem in the terms of records, memory and slices.
  module _ (calls : List Call) where
    abbrev res : List (Result State)
    res = results M check (start M) calls

    outs-is : joined_outputs (all_granted e (held_of p (start M)) calls) ≡ joined res
    outs-is = rw (all-granted-is calls (start M)) (joined_is p res)

    replied-is : map reply_of (all_granted e (held_of p (start M)) calls) ≡ replies res
    replied-is = rw (all-granted-is calls (start M)) (replies-is p res)

    translate : lists.Demand3 M check calls →
        Demand3 e calls (all_granted e (held_of p (start M)) calls) (held_after_all e (held_of p (start M)) calls)
    translate d =
        let held = held-after-all-is calls (start M) in
        record {
          m = d.m;
          is-after = rw held (to-after d.m _ _ _ outs-is d.stands);
          only = λ n s. d.only n (to-stands n _ _ _ outs-is (rw held at s));
          replies = rw replied-is d.trace;
          replies-only = λ rs n g w. d.replies-only rs n g w ∙ sym replied-is;
          largest = rw replied-is d.largest;
          deepest = rw (held, d.deepest) (run-greatest M d.m);
          granted-sum = rw (held, replied-is) d.granted;
          parameters = rw held;
        }

-- DEMAND 3. After an accepted start, with any input, for every list of grants.
pub demand3 : (e : Environment) (m : Memory) (calls : List Call) → refusal_of (start_checks e m) ≡ 0 →
    let h = held_after_start (started e m) in
    Demand3 e calls (all_granted e h calls) (held_after_all e h calls)
unfolding start
demand3 e m calls h =
    let fit = (start-accepted e m h).fit in
    rw (started-accepted e m h) (translate e calls (lists.demand3 (Tak e) (grant_refusal e) (priced e fit) calls))
