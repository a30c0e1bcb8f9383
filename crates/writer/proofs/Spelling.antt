-- The digits of a number, written from the last to the first. Assumes nothing.
use Prim.Native.Nat.{ℕ, zero, suc, ◌+◌, ◌*◌, ◌-◌, ◌/◌, ◌%◌, ◌^◌, ◌≤◌, ◌<◌, max}
use mathlib.Core.Path.{◌≡◌, refl, sym, ap, ◌∙◌}
use mathlib.Core.Bool.{Bool, true, false}
use mathlib.Core.List.{List, [], ◌∷◌, ◌++◌, append_assoc, append-nil}
use mathlib.Core.Option.{some}
use native.Mathlib.Nat.{pow-suc, pow-le-pow_right}
use native.Mathlib.Numerals.{add-one, one-add}
use native.Mathlib.Omega.{arith}
use lib.IntN.{ℤ, pos, negsuc, nat_abs}
use lib.ListN.{length, take, drop, set, length-append, length-set, length-drop, drop_of_length-le}
use lib.Seq.{drop-cons, drop-set-lt, get_or-set_same}
use lib.Signed.{lt_z}
use borrow.Author.Tests.{lt-ltb, le-ltb}
use borrow.Rule.Slice.PartMut.{put_mid}
use mir.Val.{bool_byte}
use Rattle.std.specs.Prelude.{Ok, Err}
use Rattle.std.proofs.Common.{zero-add}
use Rattle.std.proofs.lemmas.List.{take_rest}
use Rattle.model.specs.declared.Refusal.TheVariants as refusal
use Rattle.model.specs.Numbers.{digits_of, decimal, number, longest_decimal}
use Rattle.model.specs.Calls.{spelled}
use Rattle.model.proofs.Decimals.{digit-count, by_digits, digits_last, digits_more, digits_append, digits-at-most, number-decimal}
use Rattle.writer.specs.Decimal.{written}

-- The last k digits of n in front of s, zeros where n has fewer.
unfoldable pub last_digits : (k n : ℕ) → List ℕ → List ℕ
last_digits zero n s = s
last_digits (suc k) n s = last_digits k (n / 10) ((48 + n % 10) ∷ s)

-- Where they are as many as n has, they are n's digits.
abbrev All : (fuel n : ℕ) → Type 0
All f n = (s : List ℕ) → last_digits (length (digits_of f n [])) n s ≡ digits_of f n [] ++ s

all_digits : (f n : ℕ) → n < f → All f n
unfolding last_digits
all_digits = by_digits All last more
  where
    last : (f n : ℕ) → n < 10 → All (suc f) n
    last f n l s = let e : n % 10 ≡ n = omega arith in rw (digits_last f n [] l) (ap (λ (d : ℕ). (48 + d) ∷ s) e)

    more : (f n : ℕ) → 10 ≤ n → All f (n / 10) → All (suc f) n
    more f n l ih s =
        let ds = digits_of f (n / 10) [] in
        let d = 48 + n % 10 in
        let e : digits_of (suc f) n [] ≡ ds ++ (d ∷ []) = digits_more f n [] l ∙ digits_append f (n / 10) [] (d ∷ []) in
        let k : length (ds ++ (d ∷ [])) ≡ suc (length ds) = omega (arith, length-append ds (d ∷ [])) in
        rw e (ap (λ (j : ℕ). last_digits j n s) k ∙ ih (d ∷ s) ∙ sym (append_assoc ds (d ∷ []) s))

pub decimal_digits : (n k : ℕ) → k ≡ length (decimal (pos n)) → last_digits k n [] ≡ decimal (pos n)
decimal_digits n k e = rw e (all_digits (suc n) n (omega arith) [] ∙ append-nil _)

-- THE COUNT: p is 10^(k - 1).
pub next_power : (k p : ℕ) → p * 10 ≡ 10 ^ k → p * 10 * 10 ≡ 10 ^ (k + 1)
next_power k p e = rw (add-one, pow-suc) (omega arith)

pub power_fits : (k p : ℕ) → p * 10 ≡ 10 ^ k → k ≤ 19 → p * 10 < 2 ^ 64
power_fits k p e h = let ten : 0 < 10 = omega arith in let l = pow-le-pow_right ten h in omega arith

-- From 10^(k - 1) on, and from 0 on for k = 1, and below 10^k, n has k digits.
pub digits_counted : (k n : ℕ) → 1 ≤ k → 10 ^ k ≤ max 1 n * 10 → n < 10 ^ k → length (decimal (pos n)) ≡ k
digits_counted zero n h l b = absurd (omega arith)
digits_counted (suc k) n h l b = digit-count k n (omega (arith, rw pow-suc at l)) b

-- One more digit in front.
pub write_digit : (at n : ℕ) (out : List ℕ) → 0 < at → at ≤ length out →
    last_digits at n (drop at out) ≡ last_digits (at - 1) (n / 10) (drop (at - 1) (set out (at - 1) (48 + n % 10)))
unfolding last_digits
write_digit zero n out h l = absurd (omega arith)
write_digit (suc k) n out h l =
    let e : suc k - 1 ≡ k = omega arith in
    let d = 48 + n % 10 in
    let j : k < length (set out k d) = simp length-set l in
    rw e (ap (last_digits k (n / 10)) (sym (rw (drop-cons (set out k d) k 0 j, get_or-set_same out k d 0 l, drop-set-lt (suc k) out k d (omega arith)))))

pub all_written : (at n : ℕ) (out : List ℕ) → at ≡ 0 → last_digits at n (drop at out) ≡ out
unfolding last_digits
all_written at n out e = rw e

-- THE REPLY
-- The rest of a slice, lent and given back.
put-rest : (a : ℕ) (xs ys : List ℕ) → put_mid a (length xs - a) xs ys ≡ take a xs ++ ys
put-rest a xs ys = let l : length (drop a xs) ≤ length xs - a = omega (arith, length-drop a xs) in rw (drop_of_length-le (drop a xs) l, append-nil)

pub spelled_short : (z : ℤ) (old : List ℕ) → length old < longest_decimal → written (Err refusal.DecimalLength) old ≡ spelled z old
unfolding spelled
spelled_short z old h = rw (lt-ltb (length old) longest_decimal h)

spelled-long : (z : ℤ) (old ds out : List ℕ) (count : ℕ) → longest_decimal ≤ length old → decimal z ≡ ds → count ≡ length ds → out ≡ ds ++ drop count old →
    written (Ok count) out ≡ spelled z old
unfolding spelled
spelled-long z old ds out count h d n e = rw (le-ltb (length old) longest_decimal h, d, e, n)

-- The room that digits take, and a sign.
pub digits_fit : (k n : ℕ) → n < 10 ^ suc k → length (decimal (pos n)) ≤ suc k
digits_fit k n l = omega (arith, digits-at-most (suc n) n (omega arith) k [] l)

pub sign_fits : (b : Bool) → bool_byte b ≤ 1
sign_fits true = omega arith
sign_fits false = omega arith

-- There is a digit.
first-digit : (n : ℕ) → 1 ≤ length (decimal (pos n))
first-digit n = go (decimal (pos n)) (number-decimal (pos n))
  where
    go : (s : List ℕ) → number s ≡ some (pos n) → 1 ≤ length s
    go [] h = cc
    go (b ∷ s) h = omega arith

-- A minus at the start, and the digits from `sign` on, over it where there is none.
digits-put : (z : ℤ) (b : ℕ) (s : List ℕ) (sign n count : ℕ) → sign ≡ bool_byte (lt_z z (pos 0)) → n ≡ nat_abs z → count ≡ length (decimal (pos n)) →
    (sign + count ≡ length (decimal z)) × (take sign (45 ∷ s) ++ (decimal (pos n) ++ drop count (drop sign (45 ∷ s))) ≡ decimal z ++ drop (sign + count) (b ∷ s))
digits-put (pos m) b s sign n zero e a c = let l = first-digit n in absurd (omega arith)
digits-put (pos m) b s sign n (suc count) e a c = let f : sign ≡ 0 = e ∙ ap bool_byte (le-ltb m 0 (omega arith)) in rw (f, zero-add, ← a) (c, refl)
digits-put (negsuc m) b s sign n count e a c = rw (e, one-add, ← a) (ap suc c, refl)

pub spelled_digits : (z : ℤ) (old out : List ℕ) (sign n count : ℕ) → longest_decimal ≤ length old → sign ≡ bool_byte (lt_z z (pos 0)) → n ≡ nat_abs z →
    count ≡ length (decimal (pos n)) → out ≡ decimal (pos n) ++ drop count (take (length (set old 0 45) - sign) (drop sign (set old 0 45))) →
    written (Ok (sign + count)) (put_mid sign (length (set old 0 45) - sign) (set old 0 45) out) ≡ spelled z old
spelled_digits z [] out sign n count h s a c o = absurd (omega arith)
spelled_digits z (b ∷ old) out sign n count h s a c o =
    let put = digits-put z b old sign n count s a c in
    spelled-long z (b ∷ old) (decimal z) _ _ h refl put.0 (put-rest sign (45 ∷ old) out ∙ ap (λ (xs : List ℕ). take sign (45 ∷ old) ++ xs) (rw take_rest at o) ∙ put.1)
