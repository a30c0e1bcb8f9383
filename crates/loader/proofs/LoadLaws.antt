-- Load's reply and its image, check by check. Assumes nothing.
use Prim.Native.Nat.{ℕ, zero, suc, ◌*◌, ◌≤◌, ◌<◌}
use mathlib.Core.Path.{◌≡◌, refl, sym, ap, ◌∙◌}
use mathlib.Core.List.{List, [], ◌∷◌}
use native.Mathlib.Omega.{arith}
use lib.Dec.{leb}
use lib.ListN.{length}
use borrow.Author.Tests.{eq-eqb, ne_eqb, le-leb, lt-leb}
use Rattle.model.specs.declared.Parameters.{Parameters}
use Rattle.model.specs.Load.{LoadReply}
use Rattle.model.specs.declared.Refusal.{Refusal}
use Rattle.model.specs.declared.Refusal.TheVariants as refusal
use Rattle.model.specs.Replies.{refusal_number_of}
use Rattle.model.specs.Load.{Refused}
use Rattle.model.specs.Parameters.{Check, ◌unless◌, refusal_of, parameter_checks, Fit, max_text}
use Rattle.model.specs.Load.{length_check, text_reply, load_checks, load_reply, load_numbers, numbers_of_load}
use Rattle.model.proofs.Fits.{all_fit, parameters-numbered, refusal-first, refusal-later}
use Rattle.model.proofs.LoadNumbers.{load-numbers}
use Rattle.model.proofs.Refusals.{load-refused-first}

-- A refusal has a number.
pub has-number : (r : Refusal) → ¬ (refusal_number_of r ≡ 0)
has-number refusal.ParameterK e = absurd (omega arith)
has-number refusal.ParameterN e = absurd (omega arith)
has-number refusal.ParameterS e = absurd (omega arith)
has-number refusal.ParameterB e = absurd (omega arith)
has-number refusal.ParameterT e = absurd (omega arith)
has-number refusal.ImageLength e = absurd (omega arith)
has-number refusal.TextLength e = absurd (omega arith)
has-number refusal.LineCount e = absurd (omega arith)
has-number refusal.MemoryLength e = absurd (omega arith)
has-number refusal.Image e = absurd (omega arith)
has-number refusal.Instruction e = absurd (omega arith)
has-number refusal.ArgumentCount e = absurd (omega arith)
has-number refusal.ArgumentForm e = absurd (omega arith)
has-number refusal.ArgumentRange e = absurd (omega arith)
has-number refusal.Record e = absurd (omega arith)
has-number refusal.InputLength e = absurd (omega arith)
has-number refusal.Cycles e = absurd (omega arith)
has-number refusal.DecimalLength e = absurd (omega arith)
has-number refusal.SameTarget e = absurd (omega arith)

module _ (p : Parameters) (text old : List ℕ) where
  -- A reply with the paper's numbers.
  pub numbered : {r : LoadReply} → r ≡ load_reply p text old → load_numbers r ≡ numbers_of_load p text old
  numbered e = ap load_numbers e ∙ load-numbers p text old

  -- A refusal by the checks, and a text that they pass.
  refused : (r : ℕ) → ¬ (r ≡ 0) → refusal_of (load_checks p text old) ≡ r → Refused r 0 ≡ load_reply p text old
  refused zero h e = absurd (h refl)
  refused (suc k) h e = sym (load-refused-first p text old k e)

  passed : refusal_of (load_checks p text old) ≡ 0 → load_reply p text old ≡ text_reply p text
  unfolding load_reply
  passed e = simp (load_reply, e)

  abbrev own : List Check
  own = length_check p old ∷ 7 unless (leb (length text) max_text) ∷ []

  pub by-parameters : {r : ℕ} → r ≡ refusal_of (parameter_checks p) → ¬ (r ≡ 0) → Refused r 0 ≡ load_reply p text old
  unfolding load_checks
  by-parameters {r} e h = refused r h (refusal-first (parameter_checks p) own (λ q. h (e ∙ q)) ∙ sym e)

  module _ (fit : Fit p) where
    behind : refusal_of (load_checks p text old) ≡ refusal_of own
    unfolding load_checks
    behind = refusal-later (parameter_checks p) own (all_fit (parameter_checks p) (parameters-numbered p) fit)

    pub by_length : ¬ (length old ≡ 4 * p.t) → Refused 6 0 ≡ load_reply p text old
    by_length h = refused 6 (λ e. absurd (omega arith)) (behind ∙ simp (ne_eqb _ _ h))

    pub by-text : length old ≡ 4 * p.t → max_text < length text → Refused 7 0 ≡ load_reply p text old
    by-text e h = refused 7 (λ e. absurd (omega arith)) (behind ∙ simp (eq-eqb _ _ e, lt-leb _ _ h))

    pub by_lines : length old ≡ 4 * p.t → length text ≤ max_text → {r : LoadReply} → r ≡ text_reply p text → r ≡ load_reply p text old
    by_lines e h q = q ∙ sym (passed (behind ∙ simp (eq-eqb _ _ e, le-leb _ _ h)))
