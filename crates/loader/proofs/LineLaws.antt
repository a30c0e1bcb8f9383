-- A line's arguments one by one, as the loop that reads them meets them, and their packed forms. Assumes nothing.
use Prim.Native.Nat.compare
use Prim.Native.Nat.{ℕ, zero, suc, ◌+◌, ◌-◌, ◌/◌, ◌%◌, ◌^◌, ◌≤◌, ◌<◌}
use mathlib.Core.Path.{◌≡◌, refl, sym, ap, ◌∙◌}
use mathlib.Core.Bool.{Bool, true, false, cond}
use mathlib.Core.List.{List, [], ◌∷◌, ◌++◌}
use native.Mathlib.Omega.{arith}
use lib.Dec.{compare_is_eq, eqb, leb}
use native.Mathlib.Decide.{dec_lt}
use lib.ListN.{length, get_or, set, take}
use Rattle.std.proofs.lemmas.List.{take_more_set, take_all}
use borrow.Author.Tests.{eq-eqb, ne_eqb, lt-ltb, le-ltb, leb-true}
use Rattle.model.specs.declared.Parameters.{Parameters}
use Rattle.model.specs.Parameters.{between}
use Rattle.model.specs.Words.{Cell, cell_with}
use Rattle.model.specs.Instructions.{nop_number, row_of}
use Rattle.model.specs.Load.{Checked, fine, fault, argument, checked_argument, arguments_from, unless_one_target, headed, lookup, line_cell}
use Rattle.model.proofs.Fits.{both, is-between}
use Rattle.image.specs.Forms.{packed}
use Rattle.image.proofs.FitLaws.{are_packed, rows-packable}
use Rattle.loader.specs.Lines.{form_count, unpacked_few, unpacked, counted}

-- PACKED FORMS
-- What the first form's four bits are, and the rest.
packed-first : (f : ℕ) (fs : List ℕ) → are_packed (f ∷ fs) ≡ true →
    (1 ≤ packed (f ∷ fs)) × (packed (f ∷ fs) % 16 ≡ f) × (packed (f ∷ fs) / 16 ≡ packed fs)
unfolding packed
packed-first f fs h =
    let b = is-between 1 15 f (both (between 1 15 f) (are_packed fs) h).0 in
    (omega arith, omega arith, omega arith)

-- A place more than the forms need.
more-places : (k n : ℕ) → n < 16 ^ k → unpacked_few (suc k) n ≡ unpacked_few k n
unfolding unpacked_few
more-places zero n h = simp (unpacked_few, eq-eqb n 0 (omega arith))
more-places (suc k) n h = ap (λ (fs : List ℕ). cond (eqb n 0) [] (n % 16 ∷ fs)) (more-places k (n / 16) (omega (arith, h)))

unpacked-first : (n : ℕ) → ¬ (n ≡ 0) → n < 16 ^ 3 → unpacked n ≡ n % 16 ∷ unpacked (n / 16)
unfolding unpacked_few
unpacked-first n h l = simp (unpacked_few, ne_eqb n 0 h) (ap (λ (fs : List ℕ). n % 16 ∷ fs) (sym (more-places 2 (n / 16) (omega arith))))

unpacked_none : unpacked 0 ≡ []
unfolding unpacked_few
unpacked_none = refl

unpacked-packed : (k : ℕ) (fs : List ℕ) → are_packed fs ≡ true → length fs ≤ k → unpacked_few k (packed fs) ≡ fs
unfolding unpacked_few packed
unpacked-packed zero [] h l = refl
unpacked-packed (suc k) [] h l = refl
unpacked-packed zero (f ∷ fs) h l = absurd (omega arith)
unpacked-packed (suc k) (f ∷ fs) h l =
    let e = packed-first f fs h in
    let rest = unpacked-packed k fs (both (between 1 15 f) (are_packed fs) h).1 (omega arith) in
    simp (unpacked_few, ne_eqb (packed (f ∷ fs)) 0 (λ q. absurd (omega (arith, e.0)))) (rw (e.1, e.2, rest) refl)

power : (k : ℕ) → 0 < 16 ^ k
power zero = omega arith
power (suc k) = omega (arith, power k)

packed-below : (k : ℕ) (fs : List ℕ) → are_packed fs ≡ true → length fs ≤ k → packed fs < 16 ^ k
unfolding packed
packed-below k [] h l = power k
packed-below zero (f ∷ fs) h l = absurd (omega arith)
packed-below (suc k) (f ∷ fs) h l =
    let j = both (between 1 15 f) (are_packed fs) h in
    let b = is-between 1 15 f j.0 in
    omega (arith, packed-below k fs j.1 (omega arith))

-- The forms of a row, packed and taken apart again.
pub forms_below : (n : ℕ) → packed (row_of n).forms < 16 ^ 3
forms_below n = let k = both (leb (length (row_of n).forms) 3) (are_packed (row_of n).forms) (rows-packable n) in packed-below 3 _ k.1 (leb-true (length (row_of n).forms) 3 k.0)

pub forms-unpacked : (n : ℕ) → unpacked (packed (row_of n).forms) ≡ (row_of n).forms
forms-unpacked n = let k = both (leb (length (row_of n).forms) 3) (are_packed (row_of n).forms) (rows-packable n) in unpacked-packed 3 _ k.1 (leb-true (length (row_of n).forms) 3 k.0)

count-forms : (n : ℕ) → n < 16 ^ 3 → form_count n ≡ length (unpacked n)
unfolding unpacked_few
count-forms n h = go (dec_lt n 1) (dec_lt n 16) (dec_lt n 256)
  where
    go : Dec (n < 1) → Dec (n < 16) → Dec (n < 256) → form_count n ≡ length (unpacked n)
    go (yes a) b c = simp (unpacked_few, eq-eqb n 0 (omega arith))
    go (no a) (yes b) c = simp (unpacked_few, ne_eqb n 0 (λ e. omega arith), lt-ltb n 16 b, eq-eqb (n / 16) 0 (omega arith))
    go (no a) (no b) (yes c) =
        simp (unpacked_few, ne_eqb n 0 (λ e. omega arith), le-ltb n 16 (omega arith), lt-ltb n 256 c, ne_eqb (n / 16) 0 (λ e. omega arith), eq-eqb (n / 16 / 16) 0 (omega arith))
    go (no a) (no b) (no c) =
        simp (unpacked_few, ne_eqb n 0 (λ e. omega arith), le-ltb n 16 (omega arith), le-ltb n 256 (omega arith), ne_eqb (n / 16) 0 (λ e. omega arith), ne_eqb (n / 16 / 16) 0 (λ e. omega arith))

-- COUNTED
module _ (p : Parameters) (n : ℕ) (xs : List ℕ) where
  counted_none : (f : ℕ) (fs : List ℕ) → counted p n xs (f ∷ fs) [] ≡ fault 12
  unfolding counted
  counted_none f fs = simp (ne_eqb 0 (suc (length fs)) (λ e. absurd (omega arith)))

  counted-all : counted p n xs [] [] ≡ unless_one_target (cell_with n xs)
  unfolding counted arguments_from
  counted-all = refl

  counted-more : (w : List ℕ) (ws : List (List ℕ)) → counted p n xs [] (w ∷ ws) ≡ fault 12
  unfolding counted
  counted-more w ws = simp (ne_eqb (suc (length ws)) 0 (λ e. absurd (omega arith)))

  module _ (f : ℕ) (fs : List ℕ) (w : List ℕ) (ws : List (List ℕ)) where
    same_count : eqb (suc (length ws)) (suc (length fs)) ≡ eqb (length ws) (length fs)
    same_count = ap compare_is_eq (compare.suc-suc (length ws) (length fs))

    arguments-word : (x : ℕ) → checked_argument p f (argument w) ≡ fine x → arguments_from p xs (f ∷ fs) (w ∷ ws) ≡ arguments_from p (xs ++ (x ∷ [])) fs ws
    unfolding arguments_from
    arguments-word x e = simp (arguments_from, e)

    arguments-fault : (k : ℕ) → checked_argument p f (argument w) ≡ fault k → arguments_from p xs (f ∷ fs) (w ∷ ws) ≡ fault k
    unfolding arguments_from
    arguments-fault k e = simp (arguments_from, e)

    counted-word : (x : ℕ) → checked_argument p f (argument w) ≡ fine x → counted p n xs (f ∷ fs) (w ∷ ws) ≡ counted p n (xs ++ (x ∷ [])) fs ws
    unfolding counted
    counted-word x e = rw (same_count, arguments-word x e) refl

    counted-fault : (k : ℕ) → checked_argument p f (argument w) ≡ fault k →
        counted p n xs (f ∷ fs) (w ∷ ws) ≡ cond (eqb (length ws) (length fs)) (fault k) (fault 12)
    unfolding counted
    counted-fault k e = rw (same_count, arguments-fault k e) refl

-- THE LINE
pub line_empty : (p : Parameters) → line_cell p [] ≡ fine (cell_with nop_number [])
unfolding line_cell
line_empty p = refl

pub line-unknown : (p : Parameters) (w : List ℕ) (ws : List (List ℕ)) → lookup w ≡ 0 → line_cell p (w ∷ ws) ≡ fault 11
unfolding line_cell
line-unknown p w ws h = simp (line_cell, h)

pub line_known : (p : Parameters) (w : List ℕ) (ws : List (List ℕ)) → ¬ (lookup w ≡ 0) →
    line_cell p (w ∷ ws) ≡ counted p (lookup w) [] (row_of (lookup w)).forms ws
unfolding line_cell counted
line_known p w ws h = simp (line_cell, ne_eqb _ _ h) (go (eqb (length ws) (length (row_of (lookup w)).forms)))
  where
    go : (b : Bool) →
        ◌≡◌ {A = Checked Cell}
        (elim b as (λ x. Checked Cell) [ true ↦ headed (lookup w) (arguments_from p [] (row_of (lookup w)).forms ws) | false ↦ fault 12 ])
        (cond b (headed (lookup w) (arguments_from p [] (row_of (lookup w)).forms ws)) (fault 12))
    go true = refl
    go false = refl

-- AN ARGUMENT
-- Zeros behind a list are what is read there anyway.
get_d-zeros : (xs : List ℕ) (j : ℕ) → get_or (xs ++ (0 ∷ [])) j 0 ≡ get_or xs j 0
get_d-zeros [] zero = refl
get_d-zeros [] (suc j) = refl
get_d-zeros (x ∷ xs) zero = refl
get_d-zeros (x ∷ xs) (suc j) = get_d-zeros xs j

module _ (p : Parameters) {forms : ℕ} (few : forms < 16 ^ 3) (n : ℕ) (xs : List ℕ) (ws : List (List ℕ)) where
  pub argument_absent : forms ≡ 0 → counted p n xs (unpacked forms) ws ≡ counted p n (xs ++ (0 ∷ [])) (unpacked (forms / 16)) ws
  unfolding counted arguments_from
  argument_absent e = rw (e, unpacked_none, get_d-zeros xs 0, get_d-zeros xs 1, get_d-zeros xs 2) refl

  module _ (some : ¬ (forms ≡ 0)) where
    pub argument-missing : ws ≡ [] → counted p n xs (unpacked forms) ws ≡ fault 12
    argument-missing e = rw (e, unpacked-first forms some few) (counted_none p n xs _ _)

    module _ {w : List ℕ} {rest : List (List ℕ)} (is : ws ≡ w ∷ rest) where
      first : counted p n xs (unpacked forms) ws ≡ counted p n xs (forms % 16 ∷ unpacked (forms / 16)) (w ∷ rest)
      first = rw (is, unpacked-first forms some few) refl

      pub argument-fine : (x : ℕ) → checked_argument p (forms % 16) (argument w) ≡ fine x → counted p n xs (unpacked forms) ws ≡ counted p n (xs ++ (x ∷ [])) (unpacked (forms / 16)) rest
      argument-fine x e = first ∙ counted-word p n xs _ _ w rest x e

      pub argument-fault : (k : ℕ) → checked_argument p (forms % 16) (argument w) ≡ fault k →
          counted p n xs (unpacked forms) ws ≡ cond (eqb (length rest) (form_count (forms / 16))) (fault k) (fault 12)
      argument-fault k e =
          first
          ∙ counted-fault p n xs _ _ w rest k e
          ∙ ap (λ (m : ℕ). cond (eqb (length rest) m) (fault k) (fault 12)) (sym (count-forms (forms / 16) (omega arith)))

-- ALL OF THEM
power-few : (k : ℕ) → k ≤ 3 → 16 ^ k ≤ 16 ^ 3
power-few zero h = omega arith
power-few (suc zero) h = omega arith
power-few (suc (suc zero)) h = omega arith
power-few (suc (suc (suc zero))) h = omega arith
power-few (suc (suc (suc (suc k)))) h = absurd (omega arith)

-- So many arguments are read, the first of `arguments`; the other forms and words are left.
pub record ArgumentsInvariant (p : Parameters) (n : ℕ) (ws : List (List ℕ)) (arguments : List ℕ) (i rest : ℕ) (left : List (List ℕ)) : Type 0 where
  pub few : rest < 16 ^ (3 - i)
  pub same : counted p n [] (row_of n).forms ws ≡ counted p n (take i arguments) (unpacked rest) left

module _ (p : Parameters) (n : ℕ) (ws : List (List ℕ)) where
  pub at-start : {forms : ℕ} (arguments : List ℕ) → forms ≡ packed (row_of n).forms → ArgumentsInvariant p n ws arguments 0 forms ws
  at-start arguments e =
      record { few = rw e (forms_below n); same = ap (λ (fs : List ℕ). counted p n [] fs ws) (sym (forms-unpacked n) ∙ ap unpacked (sym e)) }

  module _ {arguments : List ℕ} {i rest : ℕ} {left : List (List ℕ)} (s : ArgumentsInvariant p n ws arguments i rest left) where
    pub forms-few : rest < 16 ^ 3
    forms-few = omega (arith, s.few, power-few (3 - i) (omega arith))

    pub at-argument : (x : ℕ) {behind : List (List ℕ)} → length arguments ≡ 3 → i < 3 →
        counted p n (take i arguments) (unpacked rest) left ≡ counted p n (take i arguments ++ (x ∷ [])) (unpacked (rest / 16)) behind →
        ArgumentsInvariant p n ws (set arguments i x) (i + 1) (rest / 16) behind
    at-argument x {behind} h l e =
        let m : 3 - i ≡ suc (3 - (i + 1)) = omega arith in
        let few : rest < 16 ^ suc (3 - (i + 1)) = rw m at s.few in
        record {
          few = omega (arith, few);
          same = s.same ∙ e ∙ ap (λ (xs : List ℕ). counted p n xs (unpacked (rest / 16)) behind) (sym (take_more_set arguments i x (omega arith)));
        }

    none : 3 ≤ i → rest ≡ 0
    none l = let m : 3 - i ≡ 0 = omega arith in let few : rest < 16 ^ 0 = rw m at s.few in omega (arith, few)

    pub all_read : length arguments ≡ 3 → i ≡ 3 → left ≡ [] →
        counted p n [] (row_of n).forms ws ≡ unless_one_target (cell_with n arguments)
    all_read h l e =
        let all : take i arguments ≡ arguments = take_all i arguments (omega (arith, h, l)) in
        s.same ∙ rw (e, none (omega (arith, l)), unpacked_none, all) (counted-all p n arguments)

    pub too_many : 3 ≤ i → {w : List ℕ} {others : List (List ℕ)} → left ≡ w ∷ others → counted p n [] (row_of n).forms ws ≡ fault 12
    too_many l e = s.same ∙ rw (e, none l, unpacked_none) (counted-more p n (take i arguments) _ _)
