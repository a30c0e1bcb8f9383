-- The decimal spelling of a number: it is read back, it has no plus and no leading zero, and it is the only one such. Assumes nothing.
use Prim.Native.Nat.{ℕ, zero, suc, ◌+◌, ◌*◌, ◌-◌, ◌/◌, ◌%◌, ◌^◌, ◌≤◌, ◌<◌, max}
use mathlib.Core.Path.{◌≡◌, refl, sym, ap, ap₂, ◌∙◌}
use mathlib.Core.Bool.{true}
use mathlib.Core.List.{List, [], ◌∷◌, ◌++◌}
use mathlib.Core.Option.{some}
use native.Mathlib.Decide.{dec_lt}
use native.Mathlib.Nat.{pow-suc}
use native.Mathlib.Omega.{arith}
use lib.IntN.{ℤ, pos, negsuc, neg_ℤ}
use lib.ListN.{length}
use lib.Signed.{mag}
use borrow.Author.Tests.{lt-ltb, le-ltb, ne_eqb}
use Rattle.model.specs.Numbers.{is_digit, digits_from, natural, mapped, number, digits_of, decimal, longest_decimal}
use Rattle.model.proofs.Fits.{is-between}
use Rattle.std.proofs.Common.{rules}

-- 0 to 9 alone.
abbrev pub AllDigits : List ℕ → Type 0
AllDigits [] = Unit {0}
AllDigits (b ∷ s) = (is_digit b ≡ true) × AllDigits s

-- 1 to 9, and further digits.
abbrev pub Leading : List ℕ → Type 0
Leading [] = ⊥
Leading (b ∷ s) = (49 ≤ b) × (b ≤ 57) × AllDigits s

-- "- first if negative, no leading zeros (zero is one 0)", and no plus.
pub data Plain : List ℕ → Type 0 where
  is_zero : Plain (48 ∷ [])
  is_positive : {s : List ℕ} → Leading s → Plain s
  is_negative : {s : List ℕ} → Leading s → Plain (45 ∷ s)

-- DIGIT BY DIGIT
-- The test of the definition, as a fact.
pub digits_last : (f n : ℕ) (s : List ℕ) → n < 10 → digits_of (suc f) n s ≡ (48 + n) ∷ s
unfolding digits_of
digits_last f n s h = simp (digits_of, lt-ltb n 10 h)

pub digits_more : (f n : ℕ) (s : List ℕ) → 10 ≤ n → digits_of (suc f) n s ≡ digits_of f (n / 10) ((48 + n % 10) ∷ s)
unfolding digits_of
digits_more f n s h = simp (digits_of, le-ltb n 10 h)

-- What holds of a last digit, and with a further one, holds wherever the fuel is above the number.
pub by_digits : (P : (fuel n : ℕ) → Type 0) → ((f n : ℕ) → n < 10 → P (suc f) n) → ((f n : ℕ) → 10 ≤ n → P f (n / 10) → P (suc f) n) →
    (f n : ℕ) → n < f → P f n
by_digits P last more zero n h = absurd (omega arith)
by_digits P last more (suc f) n h = go (dec_lt n 10) (by_digits P last more f (n / 10))
  where
    go : Dec (n < 10) → (n / 10 < f → P f (n / 10)) → P (suc f) n
    go (yes l) ih = last f n l
    go (no g) ih = more f n (omega arith) (ih (omega arith))

-- More fuel changes nothing.
abbrev Enough : (fuel n : ℕ) → Type 0
Enough f n = (g : ℕ) (s : List ℕ) → n < g → digits_of f n s ≡ digits_of g n s

pub digits_fuel : (f n : ℕ) → n < f → Enough f n
digits_fuel = by_digits Enough last more
  where
    last : (f n : ℕ) → n < 10 → Enough (suc f) n
    last f n l zero s h = absurd (omega arith)
    last f n l (suc g) s h = digits_last f n s l ∙ sym (digits_last g n s l)

    more : (f n : ℕ) → 10 ≤ n → Enough f (n / 10) → Enough (suc f) n
    more f n l ih zero s h = absurd (omega arith)
    more f n l ih (suc g) s h = digits_more f n s l ∙ ih g _ (omega arith) ∙ sym (digits_more g n s l)

-- What stands behind stays there.
pub digits_append : (f n : ℕ) (s t : List ℕ) → digits_of f n (s ++ t) ≡ digits_of f n s ++ t
unfolding digits_of
digits_append zero n s t = refl
digits_append (suc f) n s t = go (dec_lt n 10) (digits_append f (n / 10) ((48 + n % 10) ∷ s) t)
  where
    go : Dec (n < 10) → digits_of f (n / 10) ((48 + n % 10) ∷ (s ++ t)) ≡ digits_of f (n / 10) ((48 + n % 10) ∷ s) ++ t →
        digits_of (suc f) n (s ++ t) ≡ digits_of (suc f) n s ++ t
    go (yes l) ih = simp (digits_of, lt-ltb n 10 l)
    go (no g) ih = let h : 10 ≤ n = omega arith in simp (digits_of, le-ltb n 10 h) ih

-- THE COUNT OF DIGITS
ten_pow : (k : ℕ) → 1 ≤ 10 ^ k
ten_pow zero = omega arith
ten_pow (suc k) = rw pow-suc (omega (arith, ten_pow k))

abbrev AtMost : (fuel n : ℕ) → Type 0
AtMost f n = (k : ℕ) (s : List ℕ) → n < 10 ^ suc k → length (digits_of f n s) ≤ suc k + length s

pub digits-at-most : (f n : ℕ) → n < f → AtMost f n
digits-at-most = by_digits AtMost last more
  where
    last : (f n : ℕ) → n < 10 → AtMost (suc f) n
    last f n l k s h = rw (digits_last f n s l) (omega arith)

    more : (f n : ℕ) → 10 ≤ n → AtMost f (n / 10) → AtMost (suc f) n
    more f n l ih zero s h = absurd (omega arith)
    more f n l ih (suc k) s h = rw (digits_more f n s l) (omega (arith, ih k ((48 + n % 10) ∷ s) (omega (arith, rw pow-suc at h))))

abbrev AtLeast : (fuel n : ℕ) → Type 0
AtLeast f n = (k : ℕ) (s : List ℕ) → 10 ^ k ≤ max 1 n → suc k + length s ≤ length (digits_of f n s)

digits-at_least : (f n : ℕ) → n < f → AtLeast f n
digits-at_least = by_digits AtLeast last more
  where
    last : (f n : ℕ) → n < 10 → AtLeast (suc f) n
    last f n l zero s h = rw (digits_last f n s l) (omega arith)
    last f n l (suc k) s h = absurd (omega (arith, rw pow-suc at h, ten_pow k))

    more : (f n : ℕ) → 10 ≤ n → AtLeast f (n / 10) → AtLeast (suc f) n
    more f n l ih zero s h = rw (digits_more f n s l) (omega (arith, ih 0 ((48 + n % 10) ∷ s) (omega arith)))
    more f n l ih (suc k) s h = rw (digits_more f n s l) (omega (arith, ih k ((48 + n % 10) ∷ s) (omega (arith, rw pow-suc at h))))

-- From 10^k on, and from 0 on for k = 0, a number has k + 1 digits.
pub digit-count : (k n : ℕ) → 10 ^ k ≤ max 1 n → n < 10 ^ suc k → length (digits_of (suc n) n []) ≡ suc k
digit-count k n l h = omega (arith, digits-at_least (suc n) n (omega arith) k [] l, digits-at-most (suc n) n (omega arith) k [] h)

-- No number of 32 bits has more bytes.
pub decimal-length : (z : ℤ) → mag z < 2 ^ 31 → length (decimal z) ≤ longest_decimal
decimal-length (pos n) h = omega (arith, digits-at-most (suc n) n (omega arith) 9 [] (omega arith))
decimal-length (negsuc n) h = omega (arith, digits-at-most (suc (suc n)) (suc n) (omega arith) 9 [] (omega arith))

-- IT IS PLAIN
is_digit_lem : (d : ℕ) → d < 10 → is_digit (48 + d) ≡ true
is_digit_lem d h = search rules

abbrev Leads : (fuel n : ℕ) → Type 0
Leads f n = (s : List ℕ) → 1 ≤ n → AllDigits s → Leading (digits_of f n s)

digits-leading : (f n : ℕ) → n < f → Leads f n
digits-leading = by_digits Leads last more
  where
    last : (f n : ℕ) → n < 10 → Leads (suc f) n
    last f n l s h d = rw (digits_last f n s l) (omega arith, omega arith, d)

    more : (f n : ℕ) → 10 ≤ n → Leads f (n / 10) → Leads (suc f) n
    more f n l ih s h d = rw (digits_more f n s l) (ih ((48 + n % 10) ∷ s) (omega arith) (is_digit_lem (n % 10) (omega arith), d))

-- The digits of a number that is not 0.
leading : (n : ℕ) → Leading (digits_of (suc (suc n)) (suc n) [])
leading n = digits-leading (suc (suc n)) (suc n) (omega arith) [] (omega arith) tt

pub decimal-plain : (z : ℤ) → Plain (decimal z)
unfolding digits_of
decimal-plain (pos zero) = is_zero
decimal-plain (pos (suc n)) = is_positive (leading n)
decimal-plain (negsuc n) = is_negative (leading n)

-- IT IS READ BACK
read-digit : (m d : ℕ) (s : List ℕ) → d < 10 → digits_from m ((48 + d) ∷ s) ≡ digits_from (m * 10 + d) s
unfolding digits_from
read-digit m d s h = search rules

abbrev Back : (fuel n : ℕ) → Type 0
Back f n = (s : List ℕ) → digits_from 0 (digits_of f n s) ≡ digits_from n s

digits-back : (f n : ℕ) → n < f → Back f n
digits-back = by_digits Back last more
  where
    last : (f n : ℕ) → n < 10 → Back (suc f) n
    last f n l s = ap (digits_from 0) (digits_last f n s l) ∙ read-digit 0 n s l ∙ ap (λ (m : ℕ). digits_from m s) (omega arith)

    more : (f n : ℕ) → 10 ≤ n → Back f (n / 10) → Back (suc f) n
    more f n l ih s =
        ap (digits_from 0) (digits_more f n s l)
        ∙ ih ((48 + n % 10) ∷ s)
        ∙ read-digit (n / 10) (n % 10) s (omega arith)
        ∙ ap (λ (m : ℕ). digits_from m s) (omega arith)

leading-natural : (s : List ℕ) → Leading s → natural s ≡ digits_from 0 s
leading-natural [] l = absurd l
leading-natural (b ∷ s) l = refl

pub natural-digits : (n : ℕ) → natural (digits_of (suc n) n []) ≡ some n
unfolding digits_of digits_from
natural-digits zero = refl
natural-digits (suc n) = leading-natural (digits_of (suc (suc n)) (suc n) []) (leading n) ∙ digits-back (suc (suc n)) (suc n) (omega arith) []

leading-number : (s : List ℕ) → Leading s → number s ≡ mapped pos (natural s)
leading-number [] l = absurd l
leading-number (b ∷ s) l = simp (number, ne_eqb b 43 (λ e. omega arith), ne_eqb b 45 (λ e. omega arith))

pub number-decimal : (z : ℤ) → number (decimal z) ≡ some z
unfolding digits_of digits_from
number-decimal (pos zero) = refl
number-decimal (pos (suc n)) = leading-number (digits_of (suc (suc n)) (suc n) []) (leading n) ∙ ap (mapped pos) (natural-digits (suc n))
number-decimal (negsuc n) = ap (mapped (λ n. neg_ℤ (pos n))) (natural-digits (suc n))

-- IT IS THE ONLY ONE
-- Digits behind those of a number that is not 0 are the digits of another such.
more-digits : (m : ℕ) (s : List ℕ) → AllDigits s → (n : ℕ) × (digits_of (suc (suc m)) (suc m) s ≡ digits_of (suc (suc n)) (suc n) [])
more-digits m [] d = (m, refl)
more-digits m (b ∷ s) d =
    let q = m * 10 + (b - 39) in
    let k = is-between 48 57 b d.0 in
    let r = more-digits q s d.1 in
    let e : suc q / 10 ≡ suc m = omega (arith, k.0, k.1) in
    let c : 48 + suc q % 10 ≡ b = omega (arith, k.0, k.1) in (
      r.0,
      digits_fuel (suc (suc m)) (suc m) (omega arith) (suc q) (b ∷ s) (omega (arith, k.0))
          ∙ sym (ap₂ (λ (n a : ℕ). digits_of (suc q) n (a ∷ s)) e c)
          ∙ sym (digits_more (suc q) (suc q) s (omega (arith, k.0)))
          ∙ r.1,
    )

spelled-leading : (s : List ℕ) → Leading s → (n : ℕ) × (s ≡ digits_of (suc (suc n)) (suc n) [])
spelled-leading [] l = absurd l
spelled-leading (b ∷ s) l =
    let r = more-digits (b - 49) s l.2 in
    let e : 48 + suc (b - 49) ≡ b = omega arith in
    (r.0, sym (ap (λ (a : ℕ). a ∷ s) e) ∙ sym (digits_last (suc (b - 49)) (suc (b - 49)) s (omega arith)) ∙ r.1)

plain-spelled : {s : List ℕ} → Plain s → (z : ℤ) × (s ≡ decimal z)
unfolding digits_of
plain-spelled is_zero = (pos 0, refl)
plain-spelled (is_positive l) = let r = spelled-leading _ l in (pos (suc r.0), r.1)
plain-spelled (is_negative l) = let r = spelled-leading _ l in (negsuc r.0, ap (λ (s : List ℕ). 45 ∷ s) r.1)

-- A plain spelling of z is the spelling of z.
pub plain-only : {s : List ℕ} → Plain s → (z : ℤ) → number s ≡ some z → s ≡ decimal z
plain-only {s} p z h =
    let r = plain-spelled p in
    let e : some r.0 ≡ some z = sym (number-decimal r.0) ∙ sym (ap number r.1) ∙ h in
    let k : r.0 ≡ z = cc in
    r.1 ∙ ap decimal k
