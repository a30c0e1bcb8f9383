-- The bitwise operations by arithmetic on values: what the code computes. Assumes nothing.
use Prim.Native.Nat.{ℕ, zero, suc, ◌+◌, ◌*◌, ◌-◌, ◌/◌, ◌%◌, ◌^◌, ◌≤◌, ◌<◌}
use mathlib.Core.Path.{◌≡◌, refl, sym, ap, subst, ◌∙◌}
use mathlib.Core.Bool.{Bool, true, false, cond}
use native.Mathlib.Nat.{mod-eq_of_lt, mod-eq-sub-mod}
use native.Mathlib.Omega.{arith}
use lib.Dec.{T, ltb}
use lib.IntN.{ℤ, pos, negsuc, neg_ℤ, ◌+ℤ◌, ◌-ℤ◌}
use lib.Signed.{mag, lt_z, le_z, shr_z}
use borrow.Author.Tests.{lt-ltb, le-ltb, ltb-true, ltb-false, leb-true, leb-false}
use mir.Syntax.{w32, w64}
use mir.Val.{SFits, to_z, of_z}
use mir.Facts.{to_z-of_z, to_z_pos, to_z-neg}
use Rattle.model.specs.Arithmetic.{bits_of, signed_of, inverted, bitwise, shift_left, shift_right_signed}
use Rattle.model.proofs.Ranges.{bits_lt}
use Rattle.bounds.specs.Bounds.{IsLimit, Within}
use Rattle.bounds.proofs.Integers.{sub_ge, sub_lt}
use Rattle.bounds.proofs.LimitLaws.{one, double}

-- K BITS read back.
pub signed_low : (m u : ℕ) → u < m → pos u ≡ signed_of m u
unfolding signed_of
signed_low m u h = rw (lt-ltb u m h)

signed_top : (m u : ℕ) → m ≤ u → signed_of m u ≡ negsuc (2 * m - suc u)
unfolding signed_of
signed_top m u h = rw (le-ltb u m h)

below : (n u : ℕ) → u < n → pos u -ℤ pos n ≡ negsuc (n - suc u)
below zero u h = absurd (omega arith)
below (suc n) u h = sub_lt u (suc n) h

pub signed_high : (m u : ℕ) → m ≤ u → u < 2 * m → pos u -ℤ pos (2 * m) ≡ signed_of m u
signed_high m u h k = below (2 * m) u k ∙ sym (signed_top m u h)

-- A value of K bits that was read back has those bits.
pub bits_signed : (m u : ℕ) → u < 2 * m → bits_of m (signed_of m u) ≡ u
unfolding bits_of signed_of
bits_signed m u h = go (ltb u m) refl
  where
    go : (b : Bool) → ltb u m ≡ b → bits_of m (cond b (pos u) (negsuc (2 * m - suc u))) ≡ u
    go true e = refl
    go false e = omega arith

minus-one-pos : (n : ℕ) → negsuc 0 -ℤ pos n ≡ negsuc n
minus-one-pos zero = refl
minus-one-pos (suc n) = ap negsuc (omega arith)

-- "RNOT x is -1 - x"
pub inverted-is : (m : ℕ) (x : ℤ) → mag x < m → negsuc 0 -ℤ x ≡ signed_of m (inverted m (bits_of m x))
unfolding bits_of
inverted-is m (pos n) h =
    let e : 2 * m - suc (2 * m - suc n) ≡ n = omega arith in
    minus-one-pos n ∙ sym (signed_top m (2 * m - suc n) (omega arith) ∙ ap negsuc e)
inverted-is m (negsuc n) h =
    let e : 2 * m - suc (2 * m - suc n) ≡ n = omega arith in
    let d : suc n - 1 ≡ n = omega arith in
    sub_ge (suc n) 1 (omega arith) ∙ ap pos d ∙ rw e (signed_low m n h)

-- RNOT in code: the 32 bits of x inverted, read back, are those K bits inverted too.
pub inverted-word : (m : ℕ) (x : ℤ) → SFits w32 x → mag x < m → to_z w32 (4294967295 - of_z w32 x) ≡ signed_of m (inverted m (bits_of m x))
unfolding bits_of
inverted-word m (pos n) f h =
    let e : 2 * m - suc (2 * m - suc n) ≡ n = omega arith in
    let d : 4294967295 - n ≡ 2 ^ 32 - suc n = omega arith in
    rw (d, to_z-neg w32 n (omega (arith, f.sfits))) (sym (signed_top m (2 * m - suc n) (omega arith) ∙ ap negsuc e))
inverted-word m (negsuc n) f h =
    let e : 2 * m - suc (2 * m - suc n) ≡ n = omega arith in
    let d : 4294967295 - (2 ^ 32 - suc n) ≡ n = omega (arith, f.sfits) in
    rw (d, to_z_pos w32 {n = n} (omega (arith, f.sfits)), e) (signed_low m n h)

-- TWO VALUES x and y, read out of 32 bits, and an operation f that makes K bits of K bits.
abbrev read : ℤ → ℤ
read z = to_z w32 (of_z w32 z)

-- A law of `model` that f makes K bits of K bits.
abbrev Keeps : (ℕ → ℕ → ℕ) → Type 0
Keeps f = (k m : ℕ) → 1 ≤ m → 2 * m ≡ 2 ^ k → (u v : ℕ) → u < 2 * m → v < 2 * m → f u v < 2 * m

pub kept : {f : ℕ → ℕ → ℕ} → Keeps f → {m : ℕ} → IsLimit m → {u v : ℕ} → u < 2 * m → v < 2 * m → f u v < 2 * m
kept keeps l hu hv = keeps l.k _ (one l) (double l) _ _ hu hv

module _ (f : ℕ → ℕ → ℕ) {x y : ℤ} (fx : SFits w32 x) (fy : SFits w32 y) where
  -- f of the bits of both, read back as signed.
  pub operation : (m : ℕ) {u v : ℕ} {r : ℤ} → SFits w32 r → u ≡ bits_of m (read x) → v ≡ bits_of m (read y) →
      r ≡ signed_of m (f u v) → read r ≡ bitwise f m x y
  unfolding bitwise
  operation m fr u v h = rw (to_z-of_z fr) (rw (u, v, to_z-of_z fx, to_z-of_z fy) at h)

  -- RNAND and RNOR: the inverse n of f's result r.
  pub inverse : {m : ℕ} {r n : ℤ} → Keeps f → IsLimit m → Within m x → Within m y → SFits w32 r → SFits w32 n → r ≡ bitwise f m (read x) (read y) → Within m r →
      ((m : ℕ) → Within m (read r) → n ≡ signed_of m (inverted m (bits_of m (read r)))) → read n ≡ bitwise (λ u v. inverted m (f u v)) m x y
  unfolding bitwise
  inverse {m} {r} {n} keeps l hx hy fr fn e h i =
      let g = rw (to_z-of_z fx, to_z-of_z fy) at e in
      let below = kept keeps l (bits_lt m (one l) x hx) (bits_lt m (one l) y hy) in
      let within : Within m (read r) = rw (to_z-of_z fr) h in
      let same : bits_of m (read r) ≡ f (bits_of m x) (bits_of m y) = rw (to_z-of_z fr) (ap (bits_of m) g ∙ bits_signed m _ below) in
      rw (to_z-of_z fn) (i m within ∙ ap (λ u. signed_of m (inverted m u)) same)

-- RSL: a shift by one is doubling, and the double modulo 2^K is brought back by at most once 2^K.
pub shifted : (x : ℤ) → mag x < 2 ^ 62 → to_z w64 (of_z w64 x * 2 % 2 ^ 64) ≡ x +ℤ x
shifted (pos n) h =
    let e : n * 2 % 2 ^ 64 ≡ n + n = omega arith in
    rw e (to_z_pos w64 {n = n + n} (omega arith))
shifted (negsuc n) h =
    let e : (2 ^ 64 - suc n) * 2 % 2 ^ 64 ≡ 2 ^ 64 - suc (suc (n + n)) = omega arith in
    rw e (to_z-neg w64 (suc (n + n)) (omega arith))

left-pos : (m n : ℕ) → n < m → shift_left m (pos n) ≡ signed_of m (2 * n)
unfolding shift_left bits_of
left-pos m n h = ap (signed_of m) (mod-eq_of_lt (omega arith))

left_neg : (m n : ℕ) → n < m → shift_left m (negsuc n) ≡ signed_of m (2 * m - 2 * suc n)
unfolding shift_left bits_of
left_neg m n h =
    ap (signed_of m) (mod-eq-sub-mod (omega arith) ∙ ap (λ u. u % (2 * m)) (omega arith) ∙ mod-eq_of_lt (omega arith))

-- By where the double lies: below the range, above it, in it.
pub double-below : (m : ℕ) (x : ℤ) → mag x < m → lt_z (x +ℤ x) (neg_ℤ (pos m)) ≡ true → x +ℤ x +ℤ pos (2 * m) ≡ shift_left m x
double-below zero x h p = absurd (omega arith)
double-below (suc k) (pos n) h p = absurd (subst T (sym p) tt)
double-below (suc k) (negsuc n) h p =
    let l = ltb-true k (suc (n + n)) p in
    let e : 2 * suc k - suc (suc (n + n)) ≡ 2 * suc k - 2 * suc n = omega arith in
    sub_ge (2 * suc k) (suc (suc (n + n))) (omega arith) ∙ ap pos e ∙ signed_low (suc k) (2 * suc k - 2 * suc n) (omega arith) ∙ sym (left_neg (suc k) n h)

pub double_above : (m : ℕ) (x : ℤ) → mag x < m → le_z (pos m) (x +ℤ x) ≡ true → x +ℤ x -ℤ pos (2 * m) ≡ shift_left m x
double_above m (pos n) h p =
    let l = leb-true m (n + n) p in
    let e : 2 * n ≡ n + n = omega arith in
    signed_high m (n + n) l (omega arith) ∙ sym (left-pos m n h ∙ ap (signed_of m) e)
double_above m (negsuc n) h p = absurd (subst T (sym p) tt)

pub double-inside : (m : ℕ) (x : ℤ) → mag x < m → lt_z (x +ℤ x) (neg_ℤ (pos m)) ≡ false → le_z (pos m) (x +ℤ x) ≡ false → x +ℤ x ≡ shift_left m x
double-inside zero x h p q = absurd (omega arith)
double-inside (suc k) (pos n) h p q =
    let l = leb-false (suc k) (n + n) q in
    let e : 2 * n ≡ n + n = omega arith in
    signed_low (suc k) (n + n) l ∙ sym (left-pos (suc k) n h ∙ ap (signed_of (suc k)) e)
double-inside (suc k) (negsuc n) h p q =
    let l = ltb-false k (suc (n + n)) p in
    let e : 2 * suc k - suc (2 * suc k - 2 * suc n) ≡ suc (n + n) = omega arith in
    sym (left_neg (suc k) n h ∙ signed_top (suc k) (2 * suc k - 2 * suc n) (omega arith) ∙ ap negsuc e)

-- ASR: halving, rounded down.
pub halved : (m : ℕ) (x : ℤ) → mag x < m → shr_z x 2 ≡ shift_right_signed m x
unfolding shift_right_signed bits_of
halved m (pos n) h =
    let e : n / 2 ≡ n / 2 + 0 = omega arith in
    rw (lt-ltb n m h) (ap pos e ∙ signed_low m (n / 2 + 0) (omega arith))
halved m (negsuc n) h =
    let e : 2 * m - suc ((2 * m - suc n) / 2 + m) ≡ n / 2 = omega arith in
    rw (le-ltb (2 * m - suc n) m (omega arith)) (sym (signed_top m ((2 * m - suc n) / 2 + m) (omega arith) ∙ ap negsuc e))
