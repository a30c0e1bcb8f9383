-- The answer of `run_grant`, from what the calls under it promise. Assumes nothing.
use Prim.Native.Nat.{ℕ, zero, suc, ◌+◌, ◌-◌, ◌≤◌}
use mathlib.Core.List.{List, ◌++◌}
use mathlib.Core.Path.{◌≡◌, refl, ap}
use native.Mathlib.Omega.{arith}
use lib.ListN.{length, take, drop, length-append}
use borrow.Rule.Slice.PartMut.{put_mid}
use Rattle.machine.specs.CallContracts.{GrantIs}
use Rattle.model.proofs.Lists as lists
use Rattle.model.proofs.Refusals.{grant-refused}
use Rattle.model.specs.Calls.{Held, environment_for, account_of, Granted, granted, grant_refusal}
use Rattle.model.specs.Grants.{Call, accept, hand_back}
use Rattle.model.specs.Lines.{value_lines}
use Rattle.model.specs.Program.{is_full, last_lines, reply_lines, slice_values}
use Rattle.model.specs.Step.{Environment, Tak}
use Rattle.session.proofs.Pieces.{put_then}
use Rattle.session.specs.Puts.{Put}
use Rattle.session.proofs.Advance.{full-progress}
use Rattle.session.specs.Sessions.{followed_by, Shows, ReportIs}
use Rattle.session.specs.declared.Report.{Report}
use Rattle.std.proofs.Common.{rules}

-- Lines that were put in front of the buffer.
shown : {text lines₀ lines₁ : List ℕ} {r : ℕ} (said : List ℕ) → said ≡ text → Put lines₀ said lines₁ r → Shows text lines₀ r lines₁
shown said e put = search rules

-- A GRANT
module _ (e : Environment) (h : Held) (c : Call) where
  abbrev own : Environment
  own = environment_for e h

  abbrev result : Granted
  result = granted e h c

  abbrev refusal : ℕ
  refusal = grant_refusal own (account_of h) c

  -- The values that a grant says it wrote stand in its slice.
  pub values-fit : result.reply.values ≤ length result.slice
  unfolding granted accept hand_back
  values-fit = go refusal refl
    where
      go : (k : ℕ) → refusal ≡ k → result.reply.values ≤ length result.slice
      go zero z = rw (lists.grant-accepted (Tak own) (grant_refusal own) (account_of h) c z) (rw length-append (omega arith))
      go (suc k) z = let q = grant-refused e h c k z in omega (arith, ap (λ (x : Granted). x.reply.values) q)

pub written-fits : {e : Environment} {h : Held} {c : Call} {x : Granted} → GrantIs e h c x → x.reply.values ≤ length x.slice
written-fits {e} {h} {c} is = rw is.given (values-fit e h c)

-- Its lines: behind those of the values, of `at` bytes, the last one, in the rest of the buffer.
pub reported : (e : Environment) (h : Held) (c : Call) (lines₀ : List ℕ) {x : Granted} {lines rest : List ℕ} {at : ℕ} {t : Report} →
    GrantIs e h c x →
    Put lines₀ (value_lines (take x.reply.values x.slice)) lines at →
    Put (take (length lines - at) (drop at lines)) (last_lines x.reply.outcome x.reply.rec) rest t.count →
    (t.next ≡ followed_by (is_full x.reply.outcome) 0) × (t.rec ≡ x.reply.rec) →
    length c.slice ≡ slice_values →
    length x.slice ≡ length c.slice →
    ReportIs e h c lines₀ (record { count = at + t.count; rec = t.rec; next = t.next }) x.memory x.slice (put_mid at (length lines - at) lines rest)
reported e h c lines₀ {x} {t = t} is first last behind room size =
    let y = granted e h c in
    let same : value_lines (take x.reply.values x.slice) ++ last_lines x.reply.outcome x.reply.rec ≡ reply_lines y = rw is.given in
    let next : t.next ≡ followed_by (is_full y.reply.outcome) 0 = rw is.given at behind.0 in
    let rec : t.rec ≡ y.reply.rec = rw is.given at behind.1 in
    record {
      shows = shown _ same (put_then first last);
      next = next;
      rec = rec;
      memory = ap (λ (g : Granted). g.memory) is.given;
      values = ap (λ (g : Granted). g.slice) is.given;
      size = size;
      progress = λ m. rw rec (full-progress e h c (omega (arith, room)) m);
    }
