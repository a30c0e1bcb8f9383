-- A transfer behind a call. Assumes nothing.
use Prim.Native.Nat.{ℕ, ◌-◌, ◌≤◌, ◌<◌}
use mathlib.Core.Path.{◌≡◌, refl}
use native.Mathlib.Omega.{arith}
use lib.Dec.{eqb, ltb}
use borrow.Author.Tests.{ltb-true}
use Rattle.std.specs.Prelude.{Result, Ok, Err, MatchResult, IfOk}
use Rattle.model.proofs.Fits.{by_cond}
use Rattle.settings.specs.Transfers.{advanced, after_call}
use Rattle.settings.specs.declared.transfers.CallError.{CallError}
use Rattle.settings.specs.declared.transfers.CallError.TheVariants.{Interrupted, Other}
use Rattle.settings.specs.declared.transfers.Failed.{Failed}
use Rattle.settings.specs.declared.transfers.Transfer.{Transfer}

-- WHAT IT ANSWERED
-- Within the same buffer,
abbrev pub Within : Transfer → Result Transfer Failed → Type 0
Within t r = MatchResult r (λ r. (r.count ≤ t.length) × (r.length ≡ t.length)) (λ r. r.count ≤ t.length)

-- and with fewer calls to follow.
abbrev pub Fewer : Transfer → Result Transfer Failed → Type 0
Fewer t r = IfOk r (λ r. r.calls < t.calls)

module _ (t : Transfer) where
  advanced-within : t.count ≤ t.length → (n : ℕ) → Within t (Ok (advanced t n))
  unfolding advanced
  advanced-within h n =
      by_cond (λ (r : Transfer). Within t (Ok r)) (eqb n 0) _ _ (λ e. (h, refl))
      λ e. by_cond (λ (r : Transfer). Within t (Ok r)) (ltb n (t.length - t.count)) _ _
      (λ l. let k = ltb-true n (t.length - t.count) l in (omega (arith, k, h), refl))
      λ l. (omega arith, refl)

  pub answer-within : t.count ≤ t.length → (z : Result ℕ CallError) → Within t (after_call t z)
  answer-within h (Ok n) = advanced-within h n
  answer-within h (Err Interrupted) = (h, refl)
  answer-within h (Err Other) = h

  advanced-fewer : 0 < t.calls → (n : ℕ) → Fewer t (Ok (advanced t n))
  unfolding advanced
  advanced-fewer h n =
      by_cond (λ (r : Transfer). Fewer t (Ok r)) (eqb n 0) _ _ (λ e. h)
      λ e. by_cond (λ (r : Transfer). Fewer t (Ok r)) (ltb n (t.length - t.count)) _ _ (λ l. omega (arith, h)) λ l. h

  pub answer-fewer : 0 < t.calls → (z : Result ℕ CallError) → Fewer t (after_call t z)
  answer-fewer h (Ok n) = advanced-fewer h n
  answer-fewer h (Err Interrupted) = omega (arith, h)
  answer-fewer h (Err Other) = tt
