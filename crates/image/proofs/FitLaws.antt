-- The test of a cell's words, as the code makes it. Assumes nothing.
use Prim.Native.Nat.{ℕ, ◌+◌, ◌*◌, ◌/◌, ◌%◌, ◌≤◌, ◌<◌}
use mathlib.Core.Path.{◌≡◌, refl, sym, ap, ◌∙◌}
use mathlib.Core.Bool.{Bool, true, false, not, ◌&&◌, and-true, and-false}
use mathlib.Core.List.{List, [], ◌∷◌}
use native.Mathlib.Omega.{arith}
use lib.Dec.{eqb, leb, ltb}
use lib.ListN.{length}
use borrow.Author.Tests.{ne_eqb, le-leb, lt-leb, leb-true, lt-ltb, le-ltb}
use Rattle.model.specs.declared.Parameters.{Parameters}
use Rattle.model.specs.Parameters.{between, limit, max_registers, in_range, Fit}
use Rattle.model.specs.Words.{register, direct, literal, Cell, kind_of, register_kind, direct_kind, number_kind, content_of, iar_number, shr_number, number_of}
use Rattle.model.specs.Instructions.{instruction_count, row_of}
use Rattle.model.specs.Load.{allows, is_within, one_target}
use Rattle.model.specs.Images.{register_fits, word_fits, words_fit, cell_fits}
use Rattle.model.proofs.Fits.{both, is-between, limits}
use Rattle.bounds.specs.Bounds.{IsLimit}
use Rattle.model.proofs.Rows.{row-rule}
use Rattle.image.specs.Forms.{packed}
use Rattle.image.specs.Decode.{argument_word_fits, argument_words_fit}

pub is-limit : (p : Parameters) {m : ℕ} → Fit p → m ≡ limit p.k → IsLimit m
is-limit p f e = let l = limits p f in record { k = p.k; low = l.k-low; high = l.k-high; is = e }

-- A REGISTER: R0 to R(N-1), or from N on only a special one.
module _ (p : Parameters) (form r : ℕ) where
  pub register-below : p.n ≤ max_registers → r < p.n → allows form (register r) ≡ register_fits p form r
  unfolding is_within
  register-below few h = rw (lt-leb iar_number r (omega arith), lt-ltb r p.n h) (sym (and-true (allows form (register r))))

  pub register-behind : p.n ≤ r → between iar_number shr_number r ≡ false → false ≡ register_fits p form r
  unfolding is_within
  register-behind l e = rw (e, le-ltb r p.n l) (sym (and-false (allows form (register r))))

-- A WORD, by its kind.
module _ (p : Parameters) (form w : ℕ) where
  pub head-word : kind_of w ≡ 0 → word_fits p form w ≡ false
  unfolding word_fits
  head-word e = rw e

  pub register-word : kind_of w ≡ register_kind → word_fits p form w ≡ register_fits p form (content_of w)
  unfolding word_fits
  register-word e = rw e

  pub direct_word : kind_of w ≡ direct_kind → word_fits p form w ≡ (allows form (direct (content_of w)) && ltb (content_of w) p.b)
  unfolding word_fits is_within
  direct_word e = rw e

  pub number_word : kind_of w ≡ number_kind → word_fits p form w ≡ (allows form (literal (number_of (content_of w))) && in_range (limit p.k) (number_of (content_of w)))
  unfolding word_fits is_within
  number_word e = rw e

-- THE PLACES. Forms that a packed number can hold: at most three, and none 0.
abbrev pub are_packed : List ℕ → Bool
are_packed [] = true
are_packed (f ∷ fs) = between 1 15 f && are_packed fs

module _ (p : Parameters) (x y z : ℕ) where
  present : (f w : ℕ) → 1 ≤ f → argument_word_fits p f w ≡ word_fits p f w
  unfolding argument_word_fits
  present f w h = rw (ne_eqb f 0 (λ e. omega arith))

  unpacked : (n a b c : ℕ) → n % 16 ≡ a → n / 16 % 16 ≡ b → n / 256 ≡ c →
      argument_words_fit p n x y z ≡ (argument_word_fits p a x && (argument_word_fits p b y && argument_word_fits p c z))
  unfolding argument_words_fit
  unpacked n a b c e g h = rw (e, g, h)

  words-fit : (fs : List ℕ) → length fs ≤ 3 → are_packed fs ≡ true → words_fit p fs (x ∷ y ∷ z ∷ []) ≡ argument_words_fit p (packed fs) x y z
  unfolding words_fit packed argument_word_fits
  words-fit [] l h = sym (unpacked 0 0 0 0 refl refl refl ∙ rw (and-true (eqb z 0)))
  words-fit (f ∷ []) l h =
      let a = is-between 1 15 f (both (between 1 15 f) true h).0 in
      sym (unpacked (f + 16 * 0) f 0 0 (omega arith) (omega arith) (omega arith) ∙ rw (present f x a.0, and-true (eqb z 0)))
  words-fit (f ∷ g ∷ []) l h =
      let j = both (between 1 15 f) (are_packed (g ∷ [])) h in
      let a = is-between 1 15 f j.0 in
      let b = is-between 1 15 g (both (between 1 15 g) true j.1).0 in
      sym (unpacked (f + 16 * (g + 16 * 0)) f g 0 (omega arith) (omega arith) (omega arith) ∙ rw (present f x a.0, present g y b.0, and-true (eqb z 0)))
  words-fit (f ∷ g ∷ k ∷ []) l h =
      let j = both (between 1 15 f) (are_packed (g ∷ k ∷ [])) h in
      let i = both (between 1 15 g) (are_packed (k ∷ [])) j.1 in
      let a = is-between 1 15 f j.0 in
      let b = is-between 1 15 g i.0 in
      let d = is-between 1 15 k (both (between 1 15 k) true i.1).0 in
      sym (unpacked (f + 16 * (g + 16 * (k + 16 * 0))) f g k (omega arith) (omega arith) (omega arith) ∙ rw (present f x a.0, present g y b.0, present k z d.0, and-true (word_fits p k z)))
  words-fit (f ∷ g ∷ k ∷ m ∷ fs) l h = absurd (omega arith)

-- THE CELL
abbrev pub packable : List ℕ → Bool
packable fs = leb (length fs) 3 && are_packed fs

pub rows-packable : (n : ℕ) → packable (row_of n).forms ≡ true
rows-packable n = row-rule (λ r. packable r.forms) refl n

module _ (p : Parameters) (c : Cell) where
  -- No instruction's number, the lower or the upper way.
  pub low_head : c.head < 1 → cell_fits p c ≡ false
  unfolding cell_fits
  low_head h = rw (lt-leb 1 c.head h)

  pub high_head : instruction_count < c.head → cell_fits p c ≡ false
  unfolding cell_fits
  high_head h = rw (le-leb 1 c.head (omega arith), lt-leb c.head instruction_count h)

  -- One that is: what the arguments' test answers, and 19.
  pub cell-between : 1 ≤ c.head → c.head ≤ instruction_count →
      {fit : Bool} → fit ≡ argument_words_fit p (packed (row_of c.head).forms) c.first c.second c.third → (fit && not (one_target c)) ≡ cell_fits p c
  unfolding cell_fits
  cell-between l h e =
      let fs = (row_of c.head).forms in
      let k = both (leb (length fs) 3) (are_packed fs) (rows-packable c.head) in
      rw (le-leb 1 c.head l, le-leb c.head instruction_count h)
      (ap (λ (b : Bool). b && not (one_target c)) (e ∙ sym (words-fit p c.first c.second c.third fs (leb-true (length fs) 3 k.0) k.1)))
