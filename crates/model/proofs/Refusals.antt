-- Demand 1 over the definitions: a refused call gives its number and changes nothing in the record or any lent buffer. Assumes nothing.
use Prim.Native.Nat.{ℕ, suc, ◌<◌}
use mathlib.Core.Path.{◌≡◌}
use mathlib.Core.List.{List}
use lib.IntN.{ℤ}
use lib.ListN.{length}
use borrow.Author.Tests.{lt-ltb}
use Rattle.model.specs.declared.Parameters.{Parameters}
use Rattle.model.specs.Load as load
use Rattle.model.specs.Grants.{Refused}
use Rattle.model.specs.Parameters.{refusal_of}
use Rattle.model.specs.Numbers.{longest_decimal}
use Rattle.model.specs.Load.{load_checks, load_reply, image_after}
use Rattle.model.specs.Grants.{Call, hand_back, refuse, accept, grant}
use Rattle.model.specs.Step.{Environment, Memory}
use Rattle.model.specs.Calls.{Held, start_checks, started, zero_record, grant_refusal, account_of, environment_for, granted, outcome_number, spelled}
use Rattle.std.proofs.Common.{rules}

pub load-refused : (p : Parameters) (text old : List ℕ) (k i : ℕ) → load_reply p text old ≡ load.Refused k i →
    image_after p text old (load_reply p text old) ≡ old
load-refused p text old k i h = rw h

-- 1 to 7 have the index 0.
pub load-refused-first : (p : Parameters) (text old : List ℕ) (k : ℕ) → refusal_of (load_checks p text old) ≡ suc k →
    load_reply p text old ≡ load.Refused (suc k) 0
unfolding load_reply
load-refused-first p text old k h = rw (h, load_reply)

module _ (e : Environment) (m : Memory) where
  pub start-refused : (k : ℕ) → refusal_of (start_checks e m) ≡ suc k →
      started e m ≡ record { reply = record { refusal = suc k; rec = zero_record }; memory = m }
  unfolding started
  start-refused k h = rw (h, started)

  -- Start's number is that of its checks.
  pub start-number : (started e m).reply.refusal ≡ refusal_of (start_checks e m)
  unfolding started
  start-number = search rules

module _ (e : Environment) (held : Held) (c : Call) where
  abbrev refusal : ℕ
  refusal = grant_refusal (environment_for e held) (account_of held) c

  pub grant-refused : (k : ℕ) → refusal ≡ suc k →
      granted e held c
      ≡ record {
        reply = record { outcome = Refused (suc k); rec = held.rec; values = 0; cycles = 0 };
        memory = held.memory;
        slice = c.slice;
      }
  unfolding granted grant refuse
  grant-refused k h = rw (h, grant)

  -- Grant's number is that of its checks, 0 where it is accepted.
  pub grant-number : outcome_number (granted e held c).reply.outcome ≡ refusal
  unfolding outcome_number granted grant accept hand_back refuse
  grant-number = search rules

pub decimal-refused : (z : ℤ) (old : List ℕ) → length old < longest_decimal →
    spelled z old ≡ record { reply = record { refusal = 18; count = 0 }; bytes = old }
unfolding spelled
decimal-refused z old h = rw (lt-ltb (length old) longest_decimal h)
