-- The paper's numbers of load's reply are those that the checks and the text give. Assumes nothing.
use Prim.Native.Nat.{ℕ, zero, suc, ◌+◌, ◌≤◌, ◌<◌}
use mathlib.Core.Path.{◌≡◌, refl, sym, ap, ◌∙◌}
use mathlib.Core.Bool.{Bool, true, false, cond}
use mathlib.Core.List.{List, [], ◌∷◌, ◌++◌}
use mathlib.Core.Option.{Option, none, some}
use native.Mathlib.Nat.{zero-add}
use native.Mathlib.Omega.{arith}
use lib.Dec.{eqb, leb}
use lib.ListN.{length}
use Rattle.model.specs.declared.Parameters.{Parameters}
use Rattle.model.specs.Load.{Accepted, Refused}
use Rattle.model.specs.Parameters.{Check, refusal_of, parameter_checks}
use Rattle.model.specs.Words.{Argument, argument_word, Cell, cell_with}
use Rattle.model.specs.Instructions.{row_of}
use Rattle.model.specs.Load.{allows, argument, arguments_from, Checked, fault, fine, first_fault, headed, is_within, line_cell, line_of, lines, lines_reply, load_checks, load_line, load_lines, LoadNumbers, load_numbers, load_refusal, load_reply, lookup, numbers_of_load, one_target, checked_argument, right_lines, text_checks, text_reply, words}
use Rattle.model.proofs.Fits.{by_cond, Numbered, all_fit, refusal-first, refusal-later, numbered_append, parameters-numbered}
use Rattle.model.proofs.Refusals.{load-refused-first}
use Rattle.std.proofs.Common.{rules}

-- FAULTS ARE NUMBERED FROM 11 ON
abbrev Late : {A : Type 0} → Checked A → Type 0
Late (fine x) = Unit {0}
Late (fault k) = 11 ≤ k

module _ (p : Parameters) where
  checked-late : (form : ℕ) (o : Option Argument) → Late (checked_argument p form o)
  checked-late form none = omega arith
  checked-late form (some a) =
      by_cond (Late {A = ℕ}) (allows form a) (cond (is_within p a) (fine (argument_word a)) (fault 14)) (fault 13)
      (λ e. by_cond (Late {A = ℕ}) (is_within p a) (fine (argument_word a)) (fault 14) (λ q. tt) (λ q. omega arith))
      (λ e. omega arith)

  arguments-late : (xs forms : List ℕ) (ws : List (List ℕ)) → Late (arguments_from p xs forms ws)
  unfolding arguments_from
  arguments-late xs [] ws = tt
  arguments-late xs (f ∷ fs) [] = omega arith
  arguments-late xs (f ∷ fs) (w ∷ ws) = go (checked_argument p f (argument w)) (checked-late f (argument w)) (λ x. arguments-late (xs ++ (x ∷ [])) fs ws)
    where
      go : (o : Checked ℕ) → Late o → ((x : ℕ) → Late (arguments_from p (xs ++ (x ∷ [])) fs ws)) →
          Late {A = List ℕ} (elim o [ fine x ↦ arguments_from p (xs ++ (x ∷ [])) fs ws | fault k ↦ fault k ])
      go (fine x) h next = next x
      go (fault k) h next = h

  headed-late : (n : ℕ) (o : Checked (List ℕ)) → Late o → Late (headed n o)
  headed-late n (fine xs) h = by_cond Late (one_target (cell_with n xs)) (fault 19) (fine (cell_with n xs)) (λ e. omega arith) (λ e. tt)
  headed-late n (fault k) h = h

  -- The arguments' cell or their fault, as `line-late` meets it.
  choice-late : (a b : Bool) (o : Checked Cell) → Late o → Late {A = Cell} (elim a [ true ↦ fault 11 | false ↦ elim b [ true ↦ o | false ↦ fault 12 ] ])
  choice-late true b o h = omega arith
  choice-late false true o h = h
  choice-late false false o h = omega arith

  line-late : (ws : List (List ℕ)) → Late (line_cell p ws)
  unfolding line_cell
  line-late [] = tt
  line-late (w ∷ ws) =
      choice-late (eqb (lookup w) 0) (eqb (length ws) (length (row_of (lookup w)).forms)) _
      (headed-late (lookup w) (arguments_from p [] (row_of (lookup w)).forms ws) (arguments-late [] (row_of (lookup w)).forms ws))

-- THE LINES
-- A refusal, 0 for none, with the count of lines and the index of the first faulty one, of which each is shown where it counts.
abbrev shown : (refusal count index : ℕ) → LoadNumbers
shown r n i = record { refusal = r; lines = cond (eqb r 0) n 0; line = cond (leb 11 r) i 0 }

shown-accepted : (n i : ℕ) → load_numbers (Accepted n) ≡ shown 0 n i
unfolding load_numbers
shown-accepted n i = refl

shown-early : (k n i : ℕ) → suc k < 11 → load_numbers (Refused (suc k) 0) ≡ shown (suc k) n i
unfolding load_numbers
shown-early k n i h = search rules

shown-late : (k n i : ℕ) → 11 ≤ k → load_numbers (Refused k i) ≡ shown k n i
unfolding load_numbers
shown-late k n i h = search rules

same : {n m i j : ℕ} (r : ℕ) → n ≡ m → i ≡ j → shown r n i ≡ shown r m j
same r e q = λ x. shown r (e x) (q x)

module _ (p : Parameters) where
  lines-numbers : (i : ℕ) (ls : List (List ℕ)) → load_numbers (lines_reply p i ls) ≡ shown (first_fault p ls) (i + length ls) (i + right_lines p ls)
  unfolding lines_reply first_fault right_lines
  lines-numbers i [] = shown-accepted i i ∙ same {n = i} {m = i + 0} {i = i} {j = i + 0} 0 (omega arith) (omega arith)
  lines-numbers i (l ∷ ls) = go (line_of p l) (line-late p (words l)) (lines-numbers (suc i) ls)
    where
      go : (o : Checked Cell) → Late o →
          load_numbers (lines_reply p (suc i) ls) ≡ shown (first_fault p ls) (suc i + length ls) (suc i + right_lines p ls) →
          load_numbers (elim o [ fine c ↦ lines_reply p (suc i) ls | fault k ↦ Refused k i ])
          ≡ shown (elim o [ fine c ↦ first_fault p ls | fault k ↦ k ]) (i + suc (length ls)) (i + elim o [ fine c ↦ suc (right_lines p ls) | fault k ↦ 0 ])
      go (fine c) h next = next ∙ same (first_fault p ls) (omega arith) (omega arith)
      go (fault k) h next = shown-late k (i + suc (length ls)) i h ∙ same {i = i} {j = i + 0} k refl (omega arith)

-- THE CHECKS
abbrev Early : List Check → Type 0
Early [] = Unit {0}
Early (c ∷ cs) = (c.number < 11) × Early cs

early_append : (xs ys : List Check) → Early xs → Early ys → Early (xs ++ ys)
early_append [] ys e f = f
early_append (x ∷ xs) ys e f = (e.0, early_append xs ys e.1 f)

refusal-early : (cs : List Check) → Early cs → refusal_of cs < 11
refusal-early [] e = omega arith
refusal-early (c ∷ cs) e = by_cond (λ (n : ℕ). n < 11) c.fit (refusal_of cs) c.number (λ q. refusal-early cs e.1) (λ q. e.0)

module _ (p : Parameters) (text old : List ℕ) where
  parameters-early : Early (parameter_checks p)
  unfolding parameter_checks
  parameters-early = omega arith

  checks-early : Early (load_checks p text old)
  unfolding load_checks
  checks-early = early_append (parameter_checks p) _ parameters-early (omega arith)

  checks-numbered : Numbered (load_checks p text old)
  unfolding load_checks
  checks-numbered = numbered_append (parameter_checks p) _ (parameters-numbered p) (omega arith)

  by_number : {r : ℕ} → load_refusal p text old ≡ r → shown r (length (lines text)) (right_lines p (lines text)) ≡ numbers_of_load p text old
  unfolding load_lines load_line
  by_number e = search rules

  early : (k : ℕ) → refusal_of (text_checks p text old) ≡ suc k → load_refusal p text old ≡ suc k
  unfolding load_refusal
  early k e = simp (load_refusal, e)

  late : refusal_of (text_checks p text old) ≡ 0 → load_refusal p text old ≡ first_fault p (lines text)
  unfolding load_refusal
  late e = simp (load_refusal, e)

  by-checks : (k : ℕ) → refusal_of (load_checks p text old) ≡ suc k → load_numbers (load_reply p text old) ≡ numbers_of_load p text old
  by-checks k e =
      let l : suc k < 11 = rw e at (refusal-early (load_checks p text old) checks-early) in
      ap load_numbers (load-refused-first p text old k e)
      ∙ shown-early k (length (lines text)) (right_lines p (lines text)) l
      ∙ by_number (early k (refusal-first (load_checks p text old) _ (λ z. absurd (omega (arith, sym e ∙ z))) ∙ e))

  module _ (e : refusal_of (load_checks p text old) ≡ 0) where
    behind : refusal_of (text_checks p text old) ≡ cond (leb (length (lines text)) p.t) 0 8
    behind = refusal-later (load_checks p text old) _ (all_fit (load_checks p text old) checks-numbered e)

    reply : load_reply p text old ≡ cond (leb (length (lines text)) p.t) (lines_reply p 0 (lines text)) (Refused 8 0)
    unfolding load_reply text_reply
    reply = simp (load_reply, e)

    by_lines : (b : Bool) → leb (length (lines text)) p.t ≡ b → load_numbers (load_reply p text old) ≡ numbers_of_load p text old
    by_lines true q =
        ap load_numbers (reply ∙ ap (λ (b : Bool). cond b (lines_reply p 0 (lines text)) (Refused 8 0)) q)
        ∙ lines-numbers p 0 (lines text)
        ∙ same (first_fault p (lines text)) (zero-add _) (zero-add _)
        ∙ by_number (late (behind ∙ ap (λ (b : Bool). cond b 0 8) q))
    by_lines false q =
        ap load_numbers (reply ∙ ap (λ (b : Bool). cond b (lines_reply p 0 (lines text)) (Refused 8 0)) q)
        ∙ shown-early 7 (length (lines text)) (right_lines p (lines text)) (omega arith)
        ∙ by_number (early 7 (behind ∙ ap (λ (b : Bool). cond b 0 8) q))

  -- What the paper's numbers of load's reply are.
  pub load-numbers : load_numbers (load_reply p text old) ≡ numbers_of_load p text old
  load-numbers = go (refusal_of (load_checks p text old)) refl
    where
      go : (k : ℕ) → refusal_of (load_checks p text old) ≡ k → load_numbers (load_reply p text old) ≡ numbers_of_load p text old
      go zero e = by_lines e (leb (length (lines text)) p.t) refl
      go (suc k) e = by-checks k e
