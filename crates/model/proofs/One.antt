-- One grant, over the run: where it begins and where it ends. Assumes nothing.
use Prim.Native.Nat.{ℕ, suc, ◌+◌, ◌-◌, ◌≤◌, ◌<◌}
use mathlib.Core.Path.{◌≡◌, refl, sym, ap, ◌∙◌}
use mathlib.Core.List.{◌++◌, append_assoc, append-nil}
use mathlib.Core.Logic.{◌⊎◌, inl, inr}
use native.Mathlib.Omega.{arith}
use native.Mathlib.Nat.{le_refl, eq-or-lt_of_le, le_of_suc-le-suc}
use lib.ListN.{length, take, length-append}
use lib.Seq.{take-append_seam}
use borrow.Author.Tests.{ltb-true}
use Rattle.model.specs.declared.Ending.{Ending}
use Rattle.model.specs.declared.Ending.TheVariants.{OutputFull}
use Rattle.model.specs.Grants.{Stopped}
use Rattle.model.specs.Machine.{Machine, stops, goes, later, over, after, outputs, costs, deepest_after, look_at, Reaches, Largest, Priced}
use Rattle.model.specs.Grants.{Call, Result, RunState, Stop, beginning, advance, look_from, run, hand_back, accept, look_after, Runs, account_at}
use Rattle.model.proofs.Laws.{going, look-stops, reaches-suc, largest}
use Rattle.model.proofs.Loop.{run_keeps, run_looks}
use Rattle.std.proofs.lemmas.Grind.{common_steps}
use Rattle.std.proofs.Common.{rules}

module _ (M : Machine) where
  open M use {St, fresh, status, cost, values, step}

  module _ (granted room m : ℕ) where
    -- A grant that began at the machine's m-th place stands at its n-th, with the run's own state, costs and values.
    pub record Reached (a : RunState St) : Type 0 where
      pub n : ℕ
      pub forward : m ≤ n
      pub on : (i : ℕ) → m ≤ i → i < n → look_after M granted room m i ≡ goes
      pub reaches : Reaches M n
      pub fits : costs M n ≤ granted
      pub state : a.state ≡ after M n
      pub spent : a.spent ≡ costs M n
      pub deepest : a.deepest ≡ deepest_after M n
      pub written : outputs M n ≡ outputs M m ++ a.written

    -- What it sees there is what is worked out.
    look-after-at : (a : RunState St) (r : Reached a) → look_after M granted room m r.n ≡ look_from M granted room a
    unfolding look_after
    look-after-at a r = grind (arith, common_steps)

    advance-reaches : (a : RunState St) → Reached a → look_from M granted room a ≡ goes → Reached (advance M a)
    unfolding later over advance
    advance-reaches a r h =
        let g = going M a.state _ _ h in
        record {
          n = suc r.n;
          forward = omega (arith, r.forward);
          on = λ i k l. split i k (eq-or-lt_of_le (le_of_suc-le-suc l));
          reaches = reaches-suc M r.n r.reaches (rw r.state at g.run);
          fits = omega (arith, r.fits, rw (r.state, r.spent) at g.paid);
          state = rw r.state;
          spent = rw (r.state, r.spent);
          deepest = rw (r.state, r.deepest);
          written = rw (r.written, r.state, append_assoc);
        }
      where
        split : (i : ℕ) → m ≤ i → (i ≡ r.n) ⊎ (i < r.n) → look_after M granted room m i ≡ goes
        split i k (inl e) = rw e (look-after-at a r ∙ h)
        split i k (inr l) = r.on i k l

  -- A grant past its checks, from the machine's m-th place: it ends at place n, with the reply that is worked out and the values of the steps between.
  pub record Accepted (m g : ℕ) (c : Call) (x : Result St) : Type 0 where
    pub n : ℕ
    pub e : Ending
    pub runs : Runs M (g + c.cycles) (length c.slice) m n e
    pub reply : x.reply ≡ record { outcome = Stopped e; count = length (outputs M n) - length (outputs M m); cycles = costs M n - costs M m }
    pub account : x.account ≡ account_at M n (g + c.cycles)
    pub values : outputs M n ≡ outputs M m ++ take x.reply.count x.slice
    pub reaches : Reaches M n
    pub fits : costs M n ≤ g + c.cycles
    pub most : ¬ (e ≡ OutputFull) → Largest M n (g + c.cycles)

  stopped-most : (g room m n : ℕ) (e : Ending) → Reaches M n → costs M n ≤ g → look_after M g room m n ≡ stops e → ¬ (e ≡ OutputFull) → Largest M n g
  unfolding look_after look_at
  stopped-most g room m n e r f h k =
      largest M n g r f λ run. ltb-true _ _ (look-stops (status (after M n)) _ _ e h k run)

  hands-back : (m g : ℕ) (c : Call) (t : Stop St) (r : Reached (g + c.cycles) (length c.slice) m t.at) →
      look_from M (g + c.cycles) (length c.slice) t.at ≡ stops t.ending → Accepted m g c (hand_back (account_at M m g) c t)
  unfolding hand_back
  hands-back m g c t r h =
      let off = look-after-at (g + c.cycles) (length c.slice) m t.at r ∙ h in
      let count : length (outputs M r.n) - length (outputs M m) ≡ length t.at.written =
      omega (arith, simp length-append at (ap length r.written)) in
      record {
        n = r.n;
        e = t.ending;
        runs = record { forward = r.forward; on = r.on; off = off };
        reply = rw (count, r.spent);
        account = rw (r.state, r.spent, r.deepest);
        values = rw take-append_seam r.written;
        reaches = r.reaches;
        fits = r.fits;
        most = stopped-most _ _ m r.n t.ending r.reaches r.fits off;
      }

  pub accept-runs : Priced M → (m g : ℕ) (c : Call) → Reaches M m → costs M m ≤ g → Accepted m g c (accept M (account_at M m g) c)
  unfolding accept
  accept-runs priced m g c r f =
      let granted = g + c.cycles in
      let room = length c.slice in
      let begin = beginning (account_at M m g) in
      let begun : Reached granted room m begin =
      record {
        n = m;
        forward = le_refl m;
        on = λ i k l. absurd (omega arith);
        reaches = r;
        fits = omega arith;
        state = refl;
        spent = refl;
        deepest = refl;
        written = sym (append-nil _);
      } in
      hands-back m g c (run M granted room begin)
      (run_keeps M granted room (Reached granted room m) (advance-reaches granted room m) begin begun) (run_looks M priced granted room begin)

  -- Where a grant stops, and how, is one thing.
  pub runs-only : (granted room m n n₂ : ℕ) (e e₂ : Ending) → Runs M granted room m n e → Runs M granted room m n₂ e₂ → (n ≡ n₂) × (e ≡ e₂)
  runs-only granted room m n n₂ e e₂ a b = search rules
