-- What `takrun` prints needs no more of a text or an input than one byte over the limit. Assumes nothing.
use Prim.Native.Nat.{ℕ, zero, suc, ◌*◌, ◌<◌}
use mathlib.Core.Bool.{false, false≢true}
use mathlib.Core.List.{List, [], ◌∷◌, ◌++◌}
use mathlib.Core.Path.{◌≡◌, refl, sym, ap, ◌∙◌}
use native.Mathlib.Omega.{arith}
use lib.ListN.{length, take, replicate}
use borrow.Author.Tests.{lt-leb, ne_eqb}
use Rattle.model.proofs.Fits.{all_fit, fit_right, numbered_append, parameters-numbered, grant-accepted}
use Rattle.model.proofs.Refusals.{load-refused-first, grant-refused}
use Rattle.machine.proofs.Demand.{input-unread}
use Rattle.model.specs.Calls.{Held, environment_for, account_of, start_checks, started, held_after_start, Granted, granted, record_fits, grant_checks, grant_refusal}
use Rattle.model.specs.Grants.{Call}
use Rattle.model.specs.Load.{length_check, load_checks, load_reply}
use Rattle.model.specs.Parameters.{Check, ◌unless◌, refusal_of, parameter_checks, max_text, max_input}
use Rattle.model.specs.Program.{is_full, reply_lines, slice_call, grant_lines, first_grant, start_lines, printed}
use Rattle.model.specs.Settings.{settings}
use Rattle.model.specs.Step.{Environment, Memory, environment_of}
use Rattle.model.specs.Load.{LoadReply}
use Rattle.model.specs.Load as load
use Rattle.model.specs.declared.Parameters.{Parameters}
use Rattle.model.specs.declared.Record.{Record}
use Rattle.session.proofs.Printed.{lines-last, start-fresh, start-stops, start-goes, printed-refused, printed-loaded}
use Rattle.std.proofs.lemmas.Grind.{common_steps}
use Rattle.std.proofs.Common.{rules}

-- A TEXT THAT IS TOO LONG is refused, whatever it says.
load-long : (p : Parameters) (old a b : List ℕ) → max_text < length a → max_text < length b →
    (k : ℕ) × ((load_reply p a old ≡ load.Refused (suc k) 0) × (load_reply p b old ≡ load.Refused (suc k) 0))
unfolding load_checks
load-long p old a b long-a long-b = go (refusal_of (parameter_checks p ++ later)) refl
  where
    later : List Check
    later = length_check p old ∷ 7 unless false ∷ []

    same : (t : List ℕ) → max_text < length t → load_checks p t old ≡ parameter_checks p ++ later
    same t l = rw (lt-leb (length t) max_text l)

    go : (k : ℕ) → refusal_of (parameter_checks p ++ later) ≡ k →
        (k : ℕ) × ((load_reply p a old ≡ load.Refused (suc k) 0) × (load_reply p b old ≡ load.Refused (suc k) 0))
    go zero h =
        let numbered = numbered_append (parameter_checks p) later (parameters-numbered p) (omega arith, omega arith) in
        absurd (false≢true (fit_right (parameter_checks p) later (all_fit (parameter_checks p ++ later) numbered h)).1.0)
    go (suc k) h =
        (k, (load-refused-first p a old k (ap refusal_of (same a long-a) ∙ h), load-refused-first p b old k (ap refusal_of (same b long-b) ∙ h)))

text-long : (par a b input : List ℕ) → max_text < length a → max_text < length b → printed par a input ≡ printed par b input
text-long par a b input long-a long-b =
    let (k, (x, y)) = load-long (settings par) (replicate (4 * (settings par).t) 0) a b long-a long-b in
    printed-refused par a input (suc k) 0 x ∙ sym (printed-refused par b input (suc k) 0 y)

-- AN INPUT THAT IS TOO LONG: the first grant is refused.
module _ (p : Parameters) (image : List ℕ) (h : Held) (fresh : h.rec.place ≡ 0) (c : Call) (x y : List ℕ) (long-x : max_input < length x)
    (long-y : max_input < length y) where
  abbrev lent : List ℕ → Environment
  lent i = environment_of p image i

  abbrev refusal : List ℕ → ℕ
  refusal i = grant_refusal (environment_for (lent i) h) (account_of h) c

  refusal-long : refusal x ≡ refusal y
  unfolding grant_refusal grant_checks start_checks record_fits
  refusal-long = search rules

  grant-long : (granted (lent x) h c ≡ granted (lent y) h c) × (is_full (granted (lent y) h c).reply.outcome ≡ false)
  grant-long = go (refusal y) refl
    where
      go : (k : ℕ) → refusal y ≡ k → (granted (lent x) h c ≡ granted (lent y) h c) × (is_full (granted (lent y) h c).reply.outcome ≡ false)
      go zero z = absurd (omega (arith, long-y, (grant-accepted (environment_for (lent y) h) (account_of h) c z).input-length))
      go (suc k) z =
          let refused = grant-refused (lent y) h c k z in
          (grant-refused (lent x) h c k (refusal-long ∙ z) ∙ sym refused, ap (λ (g : Granted). is_full g.reply.outcome) refused)

lines_long : (p : Parameters) (image : List ℕ) (h : Held) → h.rec.place ≡ 0 → (n cycles : ℕ) (x y : List ℕ) → max_input < length x →
    max_input < length y → grant_lines (environment_of p image x) (suc n) cycles h ≡ grant_lines (environment_of p image y) (suc n) cycles h
lines_long p image h fresh n cycles x y long-x long-y =
    let (same, full) = grant-long p image h fresh (slice_call cycles) x y long-x long-y in
    lines-last (environment_of p image x) n cycles h (ap (λ (g : Granted). is_full g.reply.outcome) same ∙ full)
    ∙ ap (λ (g : Granted). reply_lines g ++ []) same
    ∙ sym (lines-last (environment_of p image y) n cycles h full)

start-long : (p : Parameters) (image : List ℕ) (m : Memory) (x y : List ℕ) → max_input < length x → max_input < length y →
    start_lines (environment_of p image x) (started (environment_of p image x) m) ≡ start_lines (environment_of p image y) (started (environment_of p image y) m)
start-long p image m x y long-x long-y = go (started (lent x) m).reply.refusal refl
  where
    lent : List ℕ → Environment
    lent i = environment_of p image i

    same : started (lent x) m ≡ started (lent y) m
    same = sym (input-unread (lent x) m) ∙ input-unread (lent y) m

    go : (k : ℕ) → (started (lent x) m).reply.refusal ≡ k → start_lines (lent x) (started (lent x) m) ≡ start_lines (lent y) (started (lent y) m)
    go zero h =
        let fresh = ap (λ (r : Record). r.place) (start-fresh (lent x) m h) in
        start-goes (lent x) (started (lent x) m) h
        ∙ lines_long p image (held_after_start (started (lent x) m)) fresh first_grant first_grant x y long-x long-y
        ∙ sym (start-goes (lent y) (started (lent x) m) h)
        ∙ ap (start_lines (lent y)) same
    go (suc k) h =
        let stops = ne_eqb (started (lent x) m).reply.refusal 0 (λ e. omega (arith, h, e)) in
        start-stops (lent x) (started (lent x) m) stops ∙ sym (start-stops (lent y) (started (lent x) m) stops) ∙ ap (start_lines (lent y)) same

input-long : (par text x y : List ℕ) → max_input < length x → max_input < length y → printed par text x ≡ printed par text y
input-long par text x y long-x long-y = go (load_reply (settings par) text (replicate (4 * (settings par).t) 0)) refl
  where
    go : (l : LoadReply) → load_reply (settings par) text (replicate (4 * (settings par).t) 0) ≡ l → printed par text x ≡ printed par text y
    go (load.Refused k i) e = printed-refused par text x k i e ∙ sym (printed-refused par text y k i e)
    go (load.Accepted n) e = printed-loaded par text x n e ∙ start-long (settings par) _ _ x y long-x long-y ∙ sym (printed-loaded par text y n e)

-- THE FILES. What depends on a file alike for all that are over the limit depends on that part of it: one byte more than the limit.
by_part : (P : List ℕ → List ℕ) (most : ℕ) → ((a b : List ℕ) → most < length a → most < length b → P a ≡ P b) →
    (s : List ℕ) → P (take (suc most) s) ≡ P s
by_part P most same s = grind (arith, common_steps)

-- The first 65,537 bytes of text and input give what the whole files give.
pub whole_files : (par text input : List ℕ) → printed par (take (suc max_text) text) (take (suc max_input) input) ≡ printed par text input
whole_files par text input =
    by_part (λ t. printed par t (take (suc max_input) input)) max_text (λ a b. text-long par a b (take (suc max_input) input)) text
    ∙ by_part (printed par text) max_input (input-long par text) input
