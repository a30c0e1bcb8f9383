-- A number byte by byte, as the loop that reads it meets it, and its range. Assumes nothing.
use Prim.Native.Nat.{ℕ, ◌+◌, ◌*◌, ◌-◌, ◌^◌, ◌≤◌, ◌<◌, min}
use mathlib.Core.Path.{◌≡◌, refl, sym, ap, ◌∙◌}
use mathlib.Core.Bool.{Bool, true, false, not, cond}
use mathlib.Core.List.{List, [], ◌∷◌}
use mathlib.Core.Option.{Option, none, some}
use Rattle.std.proofs.Common.{Some, None, Ok, Err}
use Rattle.std.specs.List.{list_all, position_or_len}
use native.Mathlib.Numerals.{add-one, one-add}
use native.Mathlib.Omega.{arith}
use lib.IntN.{ℤ}
use lib.ListN.{length, get_or, drop, drop_of_length-le}
use lib.Seq.{drop-cons}
use lib.Signed.{mag}
use borrow.Author.Tests.{eqb-true}
use lib.Dec.{eqb}
use Rattle.model.specs.Parameters.{in_range}
use Rattle.model.specs.Numbers.{is_digit, digits_from, natural}
use Rattle.model.proofs.Ranges.{range-mag}
use Rattle.numbers.specs.declared.reading.NumberError.TheVariants.{Outside}
use Rattle.numbers.specs.Reading.{capped, reading_of}

-- DIGITS
pub digits-end : (w : List ℕ) (i n : ℕ) → length w ≤ i → digits_from n (drop i w) ≡ some n
unfolding digits_from
digits-end w i n h = rw (drop_of_length-le w h)

module _ (w : List ℕ) (i : ℕ) (inside : i < length w) where
  pub digit : (n : ℕ) → is_digit (get_or w i 0) ≡ true → digits_from n (drop i w) ≡ digits_from (n * 10 + (get_or w i 0 - 48)) (drop (i + 1) w)
  unfolding digits_from
  digit n h = rw (add-one, drop-cons w i 0) (simp (digits_from, h))

  pub no_digit : (n : ℕ) → is_digit (get_or w i 0) ≡ false → digits_from n (drop i w) ≡ none
  unfolding digits_from
  no_digit n h = rw (drop-cons w i 0) (simp (digits_from, h))

-- A word with a byte.
pub natural-some : (w : List ℕ) → eqb (length w) 0 ≡ false → natural w ≡ digits_from 0 w
natural-some [] h = cc
natural-some (b ∷ s) h = refl

abbrev pub no-zero : ℕ → Bool
no-zero b = not (eqb b 48)

-- Zeros in front.
pub zeros-passed : (w : List ℕ) → digits_from 0 w ≡ digits_from 0 (drop (position_or_len no-zero w) w)
unfolding digits_from
zeros-passed [] = refl
zeros-passed (b ∷ s) = go (eqb b 48) refl (zeros-passed s)
  where
    go : (x : Bool) → eqb b 48 ≡ x → digits_from 0 s ≡ digits_from 0 (drop (position_or_len no-zero s) s) →
        digits_from 0 (b ∷ s) ≡ digits_from 0 (drop (position_or_len no-zero (b ∷ s)) (b ∷ s))
    go true e h = let k : b ≡ 48 = eqb-true b 48 e in rw k (h ∙ ap (λ (i : ℕ). digits_from 0 (drop i (48 ∷ s))) (sym (one-add _)))
    go false e h = simp e

-- Behind a value of 2^30 or more only the form counts.
pub rest-digits : (w : List ℕ) (e : ℕ) → 2 ^ 30 ≤ e → cond (list_all is_digit w) (Some (2 ^ 30)) None ≡ capped (digits_from e w)
unfolding digits_from
rest-digits [] e h = let k : 2 ^ 30 ≡ min (2 ^ 30) e = omega arith in ap Some k
rest-digits (b ∷ s) e h = go (is_digit b) refl (rest-digits s (e * 10 + (b - 48)) (omega arith))
  where
    go : (x : Bool) → is_digit b ≡ x → cond (list_all is_digit s) (Some (2 ^ 30)) None ≡ capped (digits_from (e * 10 + (b - 48)) s) →
        cond (list_all is_digit (b ∷ s)) (Some (2 ^ 30)) None ≡ capped (digits_from e (b ∷ s))
    go true d k = simp (digits_from, d) k
    go false d k = simp (digits_from, d)

-- THE RANGE
module _ (m : ℕ) (one : 1 ≤ m) where
  -- A number that is read is in range.
  pub reading-range : (o : Option ℤ) (z : ℤ) → reading_of m o ≡ Ok z → mag z < m
  reading-range none z h = let e : ◌≡◌ {A = ℕ} 0 1 = cc in absurd (omega arith)
  reading-range (some y) z h = go (in_range m y) refl h
    where
      go : (b : Bool) → in_range m y ≡ b → cond b (Ok y) (Err Outside) ≡ Ok z → mag z < m
      go true e h = let k : z ≡ y = cc in rw k (range-mag m y one e)
      go false e h = let e : ◌≡◌ {A = ℕ} 0 1 = cc in absurd (omega arith)
