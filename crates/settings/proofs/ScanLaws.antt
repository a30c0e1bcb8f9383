-- A scan behind a word and behind a byte, case by case, as the code has them. Assumes nothing.
use Prim.Native.Nat.{ℕ, ◌≤◌, ◌<◌}
use mathlib.Core.Path.{◌≡◌}
use mathlib.Core.Bool.{true, false}
use Rattle.std.specs.Prelude.{Option, Some, None}
use borrow.Author.Tests.{eq-eqb, ne_eqb, lt-ltb, le-ltb}
use Rattle.model.specs.Numbers.{is_blank, is_digit}
use Rattle.settings.specs.declared.Scan.{Scan}
use Rattle.settings.specs.Scans.{with_word, ended, extends, extended, scanned}
use Rattle.std.proofs.Common.{rules}

module _ (a : Scan) where
  pub ended-none : a.digits ≡ 0 → ended a ≡ Some a
  unfolding ended
  ended-none h = simp (ended, eq-eqb _ _ h)

  pub ended-word : ¬ (a.digits ≡ 0) → a.count < 5 → ended a ≡ Some (with_word a)
  unfolding ended
  ended-word h l = simp (ended, ne_eqb _ _ h, lt-ltb _ _ l)

  pub ended-sixth : ¬ (a.digits ≡ 0) → 5 ≤ a.count → ended a ≡ None
  unfolding ended
  ended-sixth h l = simp (ended, ne_eqb _ _ h, le-ltb _ _ l)

  module _ (b : ℕ) where
    pub scanned-blank : is_blank b ≡ true → scanned (Some a) b ≡ ended a
    unfolding scanned
    scanned-blank h = simp (scanned, h)

    pub scanned-digit : is_blank b ≡ false → extends a b ≡ true → scanned (Some a) b ≡ Some (extended a b)
    unfolding scanned
    scanned-digit h e = simp (scanned, h, e)

    pub scanned-bad : is_blank b ≡ false → extends a b ≡ false → scanned (Some a) b ≡ None
    unfolding scanned
    scanned-bad h e = simp (scanned, h, e)

-- No scan, and it stays so.
abbrev pub Void : Option Scan → Type 0
Void a = a ≡ None

pub scanned_void : (a : Option Scan) → Void a → (b : ℕ) → Void (scanned a b)
unfolding scanned
scanned_void a h b = rw h

-- What is known of a digit that extends the word.
pub record Room (a : Scan) (b : ℕ) : Type 0 where
  pub digit : is_digit b ≡ true
  pub low : 48 ≤ b
  pub high : b ≤ 57
  pub digits : a.digits < 9
  pub value : a.value < 100_000_000

pub room : (a : Scan) (b : ℕ) → extends a b ≡ true → Room a b
room a b e = search rules
