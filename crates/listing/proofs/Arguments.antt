-- An argument's text is read back as that argument, and an argument that is accepted has a word that fits. Assumes nothing.
use Prim.Native.Nat.{ℕ, suc, ◌-◌, ◌^◌, ◌≤◌, ◌<◌}
use mathlib.Core.Path.{◌≡◌, refl, ap, ◌∙◌}
use mathlib.Core.Bool.{Bool, true, false, ◌&&◌, cond}
use mathlib.Core.List.{List, [], ◌∷◌}
use mathlib.Core.Option.{Option, none, some}
use native.Mathlib.Omega.{arith}
use lib.Dec.{eqb}
use lib.IntN.{ℤ, pos, negsuc}
use lib.Signed.{mag}
use borrow.Author.Tests.{eqb-true, ne_eqb, ltb-true, lt-ltb, le-ltb, lt-leb}
use Rattle.model.specs.declared.Parameters.{Parameters}
use Rattle.model.specs.Parameters.{between, limit}
use Rattle.model.specs.Words.{Argument, register, special, direct, literal, argument_word, word_of, kind_of, content_of, number_bits, number_of, register_kind, direct_kind, number_kind, iar_number, ircr_number, shr_number}
use Rattle.model.specs.Numbers.{upper, natural, mapped, number, decimal}
use Rattle.model.specs.Load.{same_word, special_of, after_d, plain, argument, allows, is_within, fine, fault, checked_argument}
use Rattle.model.specs.Images.{word_fits}
use Rattle.model.proofs.Fits.{both, and_both, by_cond, is-between, Limits, limit-low, limit-high}
use Rattle.model.proofs.Decimals.{Leading, Plain, is_zero, is_positive, is_negative, decimal-plain, natural-digits, number-decimal}
use Rattle.model.proofs.Ranges.{range-mag}
use Rattle.listing.specs.Listing.{register_of, argument_of, special_text, argument_text}
use Rattle.listing.proofs.Bytes.{is_word, word-plain, decimal-word}
use Rattle.std.proofs.Common.{rules}

-- A special register is one of three.
abbrev Named : Argument → Type 0
Named (register r) = Unit {0}
Named (special r) = between iar_number shr_number r ≡ true
Named (direct d) = Unit {0}
Named (literal z) = Unit {0}

-- THE TEXT IS READ BACK
-- A word that begins with a sign or a digit is a number or nothing.
module _ (b : ℕ) (s : List ℕ) (h : b ≤ 57) where
  same_capital : upper b ≡ b
  same_capital = simp (lt-leb 97 b (omega arith))

  other_word : (c : ℕ) (t : List ℕ) → ¬ (b ≡ c) → same_word (b ∷ s) (c ∷ t) ≡ false
  unfolding same_word
  other_word c t d = simp (same_word, same_capital, ne_eqb b c d)

  no_special : special_of (b ∷ s) ≡ 0
  unfolding special_of
  no_special =
      let iar = other_word 73 (65 ∷ 82 ∷ []) (λ e. omega arith) in
      let ircr = other_word 73 (82 ∷ 67 ∷ 82 ∷ []) (λ e. omega arith) in
      let shr = other_word 83 (72 ∷ 82 ∷ []) (λ e. omega arith) in
      simp (special_of, iar, ircr, shr)

  number-argument : argument (b ∷ s) ≡ mapped literal (number (b ∷ s))
  unfolding argument plain
  number-argument = simp (argument, no_special, plain, same_capital, ne_eqb b 82 (λ e. omega arith), ne_eqb b 68 (λ e. omega arith))

leading-argument : (s : List ℕ) → Leading s → argument s ≡ mapped literal (number s)
leading-argument [] l = absurd l
leading-argument (b ∷ s) l = number-argument b s l.1

plain-argument : {s : List ℕ} → Plain s → argument s ≡ mapped literal (number s)
plain-argument is_zero = number-argument 48 [] (omega arith)
plain-argument (is_positive {s} l) = leading-argument s l
plain-argument (is_negative {s} l) = number-argument 45 s (omega arith)

special-back : (r : ℕ) → between iar_number shr_number r ≡ true → argument (special_text r) ≡ some (special r)
unfolding argument special_of same_word
special-back = search rules

argument-back : (a : Argument) → Named a → argument (argument_text a) ≡ some a
unfolding argument plain special_of same_word
argument-back (register r) n = ap (mapped register) (natural-digits r)
argument-back (special r) n = special-back r n
argument-back (direct d) n = ap (mapped direct) (natural-digits d)
argument-back (literal z) n = plain-argument (decimal-plain z) ∙ ap (mapped literal) (number-decimal z)

pub text-word : (a : Argument) → is_word (argument_text a) ≡ true
text-word (register r) = word-plain (decimal (pos r)) (decimal-word (pos r))
text-word (special r) =
    let word : List ℕ → Type 0 = λ w. is_word w ≡ true in
    by_cond word (eqb r iar_number) _ _ (λ e. refl) (λ e. by_cond word (eqb r ircr_number) _ _ (λ f. refl) (λ f. refl))
text-word (direct d) = word-plain (decimal (pos d)) (decimal-word (pos d))
text-word (literal z) = decimal-word z

-- FROM A WORD THAT FITS
-- Neither 13 nor 14.
abbrev is_accepted : Parameters → (form : ℕ) → Argument → Bool
is_accepted p form a = allows form a && is_within p a

-- An argument that its place accepts, with its word.
record Suits (p : Parameters) (form w : ℕ) (a : Argument) : Type 0 where
  named : Named a
  accepted : is_accepted p form a ≡ true
  word : argument_word a ≡ w

module _ (p : Parameters) (form w : ℕ) where
  register_suits : kind_of w ≡ register_kind → (b : Bool) → between iar_number shr_number (content_of w) ≡ b →
      cond b (allows form (special (content_of w))) (is_accepted p form (register (content_of w))) ≡ true →
      Suits p form w (cond b (special (content_of w)) (register (content_of w)))
  unfolding is_within
  register_suits k true e h = record { named = e; accepted = and_both h refl; word = omega arith }
  register_suits k false e h = record { named = tt; accepted = h; word = omega arith }

  direct_suits : kind_of w ≡ direct_kind → is_accepted p form (direct (content_of w)) ≡ true → Suits p form w (direct (content_of w))
  direct_suits k h = record { named = tt; accepted = h; word = omega arith }

  literal_suits : kind_of w ≡ number_kind → is_accepted p form (literal (number_of (content_of w))) ≡ true →
      Suits p form w (literal (number_of (content_of w)))
  literal_suits k h = search rules

  word_suits : word_fits p form w ≡ true → Suits p form w (argument_of w)
  unfolding word_fits
  word_suits h = go (eqb (kind_of w) register_kind) (eqb (kind_of w) direct_kind) refl refl h
    where
      register_fits : Bool
      register_fits = cond (between iar_number shr_number (content_of w)) (allows form (special (content_of w))) (is_accepted p form (register (content_of w)))

      go : (x y : Bool) → eqb (kind_of w) register_kind ≡ x → eqb (kind_of w) direct_kind ≡ y →
          cond x register_fits (cond y (is_accepted p form (direct (content_of w)))
          (eqb (kind_of w) number_kind && is_accepted p form (literal (number_of (content_of w))))) ≡ true →
          Suits p form w (cond x (register_of (content_of w)) (cond y (direct (content_of w)) (literal (number_of (content_of w)))))
      go true y e f h = register_suits (eqb-true (kind_of w) register_kind e) (between iar_number shr_number (content_of w)) refl h
      go false true e f h = direct_suits (eqb-true (kind_of w) direct_kind f) h
      go false false e f h = let g = both (eqb (kind_of w) number_kind) _ h in literal_suits (eqb-true (kind_of w) number_kind g.0) g.1

  suits-checked : (a : Argument) → Suits p form w a → checked_argument p form (argument (argument_text a)) ≡ fine w
  suits-checked a s =
      let (allowed, within) = both (allows form a) (is_within p a) s.accepted in
      ap (checked_argument p form) (argument-back a s.named) ∙ rw (allowed, within) (ap fine s.word)

  -- The text of a word that fits is read back as that word.
  pub word_back : word_fits p form w ≡ true → checked_argument p form (argument (argument_text (argument_of w))) ≡ fine w
  word_back h = suits-checked (argument_of w) (word_suits h)

-- TO A WORD THAT FITS
-- Whatever text is read, a special register is one of three.
abbrev NamedIn : Option Argument → Type 0
NamedIn none = Unit {0}
NamedIn (some a) = Named a

mapped-named : {A : Type 0} (f : A → Argument) → ((a : A) → Named (f a)) → (o : Option A) → NamedIn (mapped f o)
mapped-named f h none = tt
mapped-named f h (some a) = h a

after-named : (s : List ℕ) → NamedIn (after_d s)
after-named [] = tt
after-named (b ∷ s) = go (eqb (upper b) 77)
  where
    go : (x : Bool) → NamedIn (elim x [ true ↦ mapped direct (natural s) | false ↦ none ])
    go true = mapped-named direct (λ n. tt) (natural s)
    go false = tt

plain-named : (w : List ℕ) → NamedIn (plain w)
unfolding plain
plain-named [] = tt
plain-named (b ∷ s) = go (eqb (upper b) 82) (eqb (upper b) 68)
  where
    go : (x y : Bool) →
        NamedIn (elim x [ true ↦ mapped register (natural s) | false ↦ elim y [ true ↦ after_d s | false ↦ mapped literal (number (b ∷ s)) ] ])
    go true y = mapped-named register (λ n. tt) (natural s)
    go false true = after-named s
    go false false = mapped-named literal (λ z. tt) (number (b ∷ s))

special-number : (w : List ℕ) → eqb (special_of w) 0 ≡ false → between iar_number shr_number (special_of w) ≡ true
unfolding special_of
special-number w = search rules

argument-named : (w : List ℕ) → NamedIn (argument w)
unfolding argument
argument-named w = go (eqb (special_of w) 0) refl
  where
    go : (x : Bool) → eqb (special_of w) 0 ≡ x → NamedIn (elim x [ true ↦ plain w | false ↦ some (special (special_of w)) ])
    go true e = plain-named w
    go false e = special-number w e

bits-number : (z : ℤ) → mag z < 2 ^ 29 → number_of (number_bits z) ≡ z
bits-number (pos n) h = rw (lt-ltb n (2 ^ 29) h)
bits-number (negsuc n) h =
    let l : 2 ^ 29 ≤ 2 ^ 30 - suc n = omega arith in
    rw (le-ltb (2 ^ 30 - suc n) (2 ^ 29) l) (ap negsuc (omega arith))

-- A word of kind 1, 2 or 3.
module _ (p : Parameters) (form w : ℕ) where
  register-fits : (r : ℕ) → kind_of w ≡ register_kind → content_of w ≡ r → between iar_number shr_number r ≡ false → is_accepted p form (register r) ≡ true →
      word_fits p form w ≡ true
  unfolding word_fits
  register-fits r k e b h = simp (word_fits, k, e, b) h

  special-fits : (r : ℕ) → kind_of w ≡ register_kind → content_of w ≡ r → between iar_number shr_number r ≡ true → allows form (special r) ≡ true → word_fits p form w ≡ true
  unfolding word_fits
  special-fits r k e b h = simp (word_fits, k, e, b) h

  direct-fits : (d : ℕ) → kind_of w ≡ direct_kind → content_of w ≡ d → is_accepted p form (direct d) ≡ true → word_fits p form w ≡ true
  unfolding word_fits
  direct-fits d k e h = simp (word_fits, k, e) h

  literal-fits : (z : ℤ) → kind_of w ≡ number_kind → number_of (content_of w) ≡ z → is_accepted p form (literal z) ≡ true → word_fits p form w ≡ true
  unfolding word_fits
  literal-fits z k e h = simp (word_fits, k, e) h

word_kind : (k c : ℕ) → c < 2 ^ 30 → kind_of (word_of k c) ≡ k
word_kind k c h = omega arith

word_content : (k c : ℕ) → c < 2 ^ 30 → content_of (word_of k c) ≡ c
word_content k c h = omega arith

bits_small : (z : ℤ) → mag z < 2 ^ 29 → number_bits z < 2 ^ 30
bits_small (pos n) h = omega arith
bits_small (negsuc n) h = omega arith

-- "14 (register ≥ N, cell ≥ B, or number outside the range)" keeps each content within 30 bits, and a register below 256.
module _ (p : Parameters) (limits : Limits p) (form : ℕ) where
  argument-fits : (a : Argument) → Named a → is_accepted p form a ≡ true → word_fits p form (argument_word a) ≡ true
  unfolding is_within
  argument-fits (register r) n h =
      let l = ltb-true r p.n (both (allows form (register r)) _ h).1 in
      let small : r < 2 ^ 30 = omega arith in
      let low : r < iar_number = omega arith in
      register-fits p form (word_of register_kind r) r (word_kind register_kind r small) (word_content register_kind r small) (simp (lt-leb iar_number r low)) h
  argument-fits (special r) n h =
      let b = is-between iar_number shr_number r n in
      let small : r < 2 ^ 30 = omega arith in
      special-fits p form (word_of register_kind r) r (word_kind register_kind r small) (word_content register_kind r small) n (both (allows form (special r)) true h).0
  argument-fits (direct d) n h =
      let l = ltb-true d p.b (both (allows form (direct d)) _ h).1 in
      let small : d < 2 ^ 30 = omega arith in
      direct-fits p form (word_of direct_kind d) d (word_kind direct_kind d small) (word_content direct_kind d small) h
  argument-fits (literal z) n h =
      let low = limit-low limits.k-low in
      let high = limit-high limits.k-high in
      let m = range-mag (limit p.k) z (omega arith) (both (allows form (literal z)) _ h).1 in
      let l : mag z < 2 ^ 29 = omega arith in
      let small = bits_small z l in
      let content = ap number_of (word_content number_kind (number_bits z) small) ∙ bits-number z l in
      literal-fits p form (word_of number_kind (number_bits z)) z (word_kind number_kind (number_bits z) small) content h

  -- What is accepted at a place fits there.
  pub checked-fits : (w : List ℕ) (x : ℕ) → checked_argument p form (argument w) ≡ fine x → word_fits p form x ≡ true
  checked-fits w x = go (argument w) (argument-named w)
    where
      go : (o : Option Argument) → NamedIn o → checked_argument p form o ≡ fine x → word_fits p form x ≡ true
      go none n e = cc
      go (some a) n e = at (allows form a) (is_within p a) refl refl e
        where
          at : (y z : Bool) → allows form a ≡ y → is_within p a ≡ z →
              cond y (cond z (fine (argument_word a)) (fault 14)) (fault 13) ≡ fine x → word_fits p form x ≡ true
          at false z h g e = cc
          at true false h g e = cc
          at true true h g e = let q : argument_word a ≡ x = cc in rw q at (argument-fits a n (and_both h g))
