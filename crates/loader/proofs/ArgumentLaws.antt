-- An argument by its first letters, and its word at a place. Assumes nothing.
use Prim.Native.Nat.{ℕ, ◌+◌, ◌^◌, ◌≤◌, ◌<◌, min}
use mathlib.Core.Path.{◌≡◌, refl, ap, ◌∙◌}
use mathlib.Core.Bool.{Bool, true, false, cond}
use mathlib.Core.List.{List, [], ◌∷◌}
use mathlib.Core.Option.{Option, none, some}
use native.Mathlib.Decide.{dec_lt}
use native.Mathlib.Omega.{arith}
use lib.Dec.{ltb}
use lib.IntN.{ℤ}
use lib.ListN.{length, get_or, drop}
use lib.Seq.{drop-cons}
use borrow.Author.Tests.{eq-eqb, ne_eqb, lt-ltb, le-ltb}
use Rattle.model.specs.declared.Parameters.{Parameters}
use Rattle.model.specs.Parameters.{limit, max_cells, in_range}
use Rattle.model.specs.Numbers.{bytes, upper, mapped, natural, number}
use Rattle.model.specs.Words.{Argument, register, special, direct, literal, argument_word, register_kind, direct_kind, number_kind, iar_number, ircr_number, shr_number, word_of, number_bits}
use Rattle.model.specs.Load.{same_word, special_of, after_d, plain, argument, Checked, fine, fault, allows, is_within, checked_argument}
use Rattle.std.proofs.Common.{Result, Ok, Err}
use Rattle.std.proofs.Common as rust
use Rattle.std.specs.Option.{option_map}
use Rattle.std.specs.List.{position}
use Rattle.loader.specs.Keys.{Finds}
use Rattle.numbers.specs.declared.reading.NumberError.{NumberError}
use Rattle.numbers.specs.declared.reading.NumberError.TheVariants.{NotANumber, Outside}
use Rattle.numbers.specs.Reading.{capped, reading_of}
use Rattle.loader.specs.Faults.{indexed_of}

-- THE FIRST LETTERS
pub special_choice : (w : List ℕ) →
    special_of w ≡ cond (same_word w (bytes "IAR")) iar_number (cond (same_word w (bytes "IRCR")) ircr_number (cond (same_word w (bytes "SHR")) shr_number 0))
unfolding special_of
special_choice w = go (same_word w (bytes "IAR")) (same_word w (bytes "IRCR")) (same_word w (bytes "SHR"))
  where
    go : (a b c : Bool) →
        ◌≡◌ {A = ℕ}
        (elim a as (λ x. ℕ) [ true ↦ iar_number | false ↦ elim b as (λ x. ℕ) [ true ↦ ircr_number | false ↦ elim c as (λ x. ℕ) [ true ↦ shr_number | false ↦ 0 ] ] ])
        (cond a iar_number (cond b ircr_number (cond c shr_number 0)))
    go true b c = refl
    go false true c = refl
    go false false true = refl
    go false false false = refl

pub special-high : (w : List ℕ) → special_of w ≤ shr_number
special-high w = rw (special_choice w) (go (same_word w (bytes "IAR")) (same_word w (bytes "IRCR")) (same_word w (bytes "SHR")))
  where
    go : (a b c : Bool) → cond a iar_number (cond b ircr_number (cond c shr_number 0)) ≤ shr_number
    go true b c = omega arith
    go false true c = omega arith
    go false false true = omega arith
    go false false false = omega arith

-- The first of three names.
first-of : (a b c : Bool) (r : rust.Option ℕ) → r ≡ position (λ (x : Bool). x) (a ∷ b ∷ c ∷ []) →
    Finds (option_map (λ (i : ℕ). iar_number + i) r) (cond a iar_number (cond b ircr_number (cond c shr_number 0)))
first-of true b c r e = rw e (refl, omega arith)
first-of false true c r e = rw e (refl, omega arith)
first-of false false true r e = rw e (refl, omega arith)
first-of false false false r e = rw e refl

pub special-found : (w : List ℕ) → Finds (option_map (λ (i : ℕ). iar_number + i) (position (same_word w) (bytes "IAR" ∷ bytes "IRCR" ∷ bytes "SHR" ∷ []))) (special_of w)
special-found w = rw (special_choice w) (first-of _ _ _ _ refl)

no_special : (b : ℕ) (s : List ℕ) → ¬ (upper b ≡ 73) → ¬ (upper b ≡ 83) → special_of (b ∷ s) ≡ 0
unfolding same_word
no_special b s i h = special_choice (b ∷ s) ∙ simp (same_word, ne_eqb _ _ i, ne_eqb _ _ h)

pub argument-none : (w : List ℕ) → length w ≡ 0 → argument w ≡ none
unfolding argument special_of same_word plain
argument-none [] h = refl
argument-none (b ∷ s) h = absurd (omega arith)

pub argument_special : (w : List ℕ) → ¬ (special_of w ≡ 0) → argument w ≡ some (special (special_of w))
unfolding argument
argument_special w h = simp (argument, ne_eqb _ _ h)

not_special : (w : List ℕ) → special_of w ≡ 0 → argument w ≡ plain w
unfolding argument
not_special w h = simp (argument, h)

module _ (w : List ℕ) (inside : 0 < length w) where
  pub argument_register : upper (get_or w 0 0) ≡ 82 → argument w ≡ mapped register (natural (drop 1 w))
  unfolding plain
  argument_register e =
      rw (drop-cons w 0 0)
      (not_special _ (no_special (get_or w 0 0) (drop 1 w) (λ i. absurd (omega arith)) (λ i. absurd (omega arith))) ∙ simp (plain, e))

  pub argument_direct : upper (get_or w 0 0) ≡ 68 → argument w ≡ after_d (drop 1 w)
  unfolding plain
  argument_direct e =
      let r = ne_eqb (upper (get_or w 0 0)) 82 (λ i. absurd (omega arith)) in
      rw (drop-cons w 0 0)
      (not_special _ (no_special (get_or w 0 0) (drop 1 w) (λ i. absurd (omega arith)) (λ i. absurd (omega arith)))
      ∙ simp (plain, r, eq-eqb (upper (get_or w 0 0)) 68 e))

  pub argument-number : ¬ (upper (get_or w 0 0) ≡ 82) → ¬ (upper (get_or w 0 0) ≡ 68) → special_of w ≡ 0 → argument w ≡ mapped literal (number w)
  unfolding plain
  argument-number r d h = not_special w h ∙ rw (drop-cons w 0 0) (simp (plain, ne_eqb _ _ r, ne_eqb _ _ d))

-- "DM with digits", from behind the D
module _ (w : List ℕ) (inside : 1 < length w) where
  pub after-m : upper (get_or w 1 0) ≡ 77 → after_d (drop 1 w) ≡ mapped direct (natural (drop 2 w))
  after-m h = rw (drop-cons w 1 0) (simp (after_d, h))

-- THE WORD AT A PLACE
-- A register or a cell: what is lost above the cap is no index below the count.
module _ (p : Parameters) (form kind count : ℕ) (make : ℕ → Argument) (few : count ≤ max_cells) where
  index-checked : ((v : ℕ) → allows form (make v) ≡ true) → ((v : ℕ) → is_within p (make v) ≡ ltb v count) →
      ((v : ℕ) → argument_word (make v) ≡ word_of kind v) → (o : Option ℕ) → indexed_of kind count (capped o) ≡ checked_argument p form (mapped make o)
  index-checked a i e none = refl
  index-checked a i e (some v) = go (dec_lt v count)
    where
      go : Dec (v < count) → indexed_of kind count (capped (some v)) ≡ checked_argument p form (some (make v))
      go (yes l) = let q : min (2 ^ 30) v ≡ v = omega arith in simp (q, a v, i v, lt-ltb v count l, e v)
      go (no g) =
          let h : count ≤ min (2 ^ 30) v = omega arith in
          let k : count ≤ v = omega arith in
          simp (a v, i v, le-ltb v count k, le-ltb (min (2 ^ 30) v) count h)

-- What is read as a number, at a place that allows one.
abbrev pub numbered : Result ℤ NumberError → Checked ℕ
numbered (Ok z) = fine (word_of number_kind (number_bits z))
numbered (Err NotANumber) = fault 13
numbered (Err Outside) = fault 14

module _ (p : Parameters) (form : ℕ) where
  pub register-checked : ((v : ℕ) → allows form (register v) ≡ true) → p.n ≤ max_cells → (o : Option ℕ) →
      indexed_of register_kind p.n (capped o) ≡ checked_argument p form (mapped register o)
  unfolding is_within
  register-checked h l o = index-checked p form register_kind p.n register l h (λ v. refl) (λ v. refl) o

  pub direct-checked : ((v : ℕ) → allows form (direct v) ≡ true) → p.b ≤ max_cells → (o : Option ℕ) →
      indexed_of direct_kind p.b (capped o) ≡ checked_argument p form (mapped direct o)
  unfolding is_within
  direct-checked h l o = index-checked p form direct_kind p.b direct l h (λ v. refl) (λ v. refl) o

  pub special-checked : (r : ℕ) → allows form (special r) ≡ true → checked_argument p form (some (special r)) ≡ fine (word_of register_kind r)
  unfolding is_within
  special-checked r h = simp h

  number-checked : ((z : ℤ) → allows form (literal z) ≡ true) → (o : Option ℤ) → numbered (reading_of (limit p.k) o) ≡ checked_argument p form (mapped literal o)
  unfolding is_within
  number-checked h none = refl
  number-checked h (some z) = simp (h z) (go (in_range (limit p.k) z))
    where
      go : (b : Bool) → numbered (cond b (Ok z) (Err Outside)) ≡ cond b (fine (word_of number_kind (number_bits z))) (fault 14)
      go true = refl
      go false = refl

  pub number_read : ((z : ℤ) → allows form (literal z) ≡ true) → {m : ℕ} → m ≡ limit p.k → (o : Option ℤ) {r : Result ℤ NumberError} → r ≡ reading_of m o →
      numbered r ≡ checked_argument p form (mapped literal o)
  number_read h e o q = ap numbered q ∙ ap (λ (m : ℕ). numbered (reading_of m o)) e ∙ number-checked h o
