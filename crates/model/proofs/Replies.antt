-- A refusal that the code answers is the one that the definitions reply. Assumes nothing.
use Prim.Native.Nat.{ℕ, suc, ◌<◌}
use mathlib.Core.List.{List}
use mathlib.Core.Path.{◌≡◌, sym, ap, ◌∙◌}
use lib.IntN.{ℤ}
use lib.ListN.{length}
use Rattle.std.specs.Prelude.{Result as Answer, Ok, Err, IsErr, IsErrAnd}
use Rattle.model.specs.declared.AcceptedGrant.{AcceptedGrant}
use Rattle.model.specs.declared.Parameters.{Parameters}
use Rattle.model.specs.declared.Record.{Record}
use Rattle.model.specs.declared.Refusal.{Refusal}
use Rattle.model.specs.declared.Refusal.TheVariants as refusal
use Rattle.model.specs.Parameters.{refusal_of}
use Rattle.model.specs.Numbers.{longest_decimal}
use Rattle.model.specs.Load.{load_checks, load_reply}
use Rattle.model.specs.Grants.{Call}
use Rattle.model.specs.Step.{Environment, Memory}
use Rattle.model.specs.Calls.{Held, start_checks, started, zero_record, grant_refusal, account_of, environment_for, granted, spelled}
use Rattle.model.specs.Replies.{refusal_number_of, refusal_number, load_answer, start_answer, grant_answer, decimal_answer}
use Rattle.model.specs.Grants as outcome
use Rattle.model.specs.Load as load
use Rattle.model.proofs.Refusals as refused
use Rattle.std.proofs.Common.{rules}

-- No refusal has the number 0.
pub positive : (r : Refusal) → ¬ (refusal_number_of r ≡ 0)
positive r = search rules

-- An error that `?` hands on keeps its number.
pub handed-on : {A : Type 0} (r : Answer A Refusal) (x : Refusal) → IsErr r × IsErrAnd r (λ e. e ≡ x) → {n : ℕ} → refusal_number_of x ≡ n → refusal_number r ≡ n
handed-on (Ok a) x h q = absurd h.1
handed-on (Err e) x h q = ap refusal_number_of h.1 ∙ q

-- By its number, which is no 0.
by-number : {A : Type 0} (r : Refusal) (f : ℕ → A) {a : A} → ((k : ℕ) → refusal_number_of r ≡ suc k → a ≡ f (suc k)) → f (refusal_number_of r) ≡ a
by-number r f {a} h = search rules

pub load-answered : (p : Parameters) (text old : List ℕ) (r : Refusal) → refusal_of (load_checks p text old) ≡ refusal_number_of r →
    load_answer (Err (record { refusal = r; line = 0 })) ≡ load_reply p text old
load-answered p text old r h = by-number r (λ n. load.Refused n 0) (λ k q. refused.load-refused-first p text old k (h ∙ q))

module _ (e : Environment) (m : Memory) where
  pub start-answered : (r : Answer Record Refusal) (x : Refusal) → IsErr r × IsErrAnd r (λ y. y ≡ x) → refusal_number_of x ≡ refusal_of (start_checks e m) →
      record { reply = start_answer r; memory = m } ≡ started e m
  start-answered (Ok a) x h q = absurd h.1
  start-answered (Err y) x h q =
      by-number y (λ n. record { reply = record { refusal = n; rec = zero_record }; memory = m })
      (λ k z. refused.start-refused e m k (sym (ap refusal_number_of h.1 ∙ q) ∙ z))

module _ (e : Environment) (held : Held) (c : Call) where
  pub grant-answered : (r : Answer AcceptedGrant Refusal) (x : Refusal) → IsErr r × IsErrAnd r (λ y. y ≡ x) →
      refusal_number_of x ≡ grant_refusal (environment_for e held) (account_of held) c →
      record { reply = grant_answer held.rec r; memory = held.memory; slice = c.slice } ≡ granted e held c
  grant-answered (Ok a) x h q = absurd h.1
  grant-answered (Err y) x h q =
      by-number y
      (λ n. record { reply = record { outcome = outcome.Refused n; rec = held.rec; values = 0; cycles = 0 }; memory = held.memory; slice = c.slice })
      (λ k z. refused.grant-refused e held c k (sym (ap refusal_number_of h.1 ∙ q) ∙ z))

pub decimal-answered : (z : ℤ) (old : List ℕ) → length old < longest_decimal →
    record { reply = decimal_answer (Err refusal.DecimalLength); bytes = old } ≡ spelled z old
decimal-answered z old h = sym (refused.decimal-refused z old h)
