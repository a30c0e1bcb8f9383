-- Words of plain bytes that are joined by single spaces, and lines that LF ends, are read back. Assumes nothing.
use Prim.Native.Nat.{ℕ, zero, suc, ◌≤◌, ◌<◌}
use mathlib.Core.Path.{◌≡◌, refl, sym, ap, ◌∙◌}
use mathlib.Core.Bool.{Bool, true, false, not, ◌&&◌}
use mathlib.Core.List.{List, [], ◌∷◌, ◌++◌, append_assoc, append-nil}
use native.Mathlib.Omega.{arith}
use lib.Dec.{eqb, ltb}
use lib.IntN.{ℤ}
use lib.ListN.{length, get_or}
use borrow.Author.Tests.{ltb-true}
use Rattle.model.specs.Numbers.{decimal}
use Rattle.model.specs.Load.{lines_from, lines, is_comment, is_separator, words_from, words}
use Rattle.model.proofs.Fits.{both, and_both, is-between}
use Rattle.model.proofs.Decimals.{AllDigits, Leading, Plain, is_zero, is_positive, is_negative, decimal-plain}
use Rattle.listing.specs.Listing.{spaced}
use Rattle.std.proofs.Common.{rules}

-- CLASSES OF BYTES
-- A byte of a text.
abbrev pub is_byte : ℕ → Bool
is_byte b = ltb b 256

-- A byte of a line.
abbrev pub is_inner : ℕ → Bool
is_inner b = not (eqb b 10) && is_byte b

-- A byte of a word.
abbrev is_plain : ℕ → Bool
is_plain b = not (is_comment b) && not (is_separator b) && is_inner b

abbrev pub all : (ℕ → Bool) → List ℕ → Bool
all f [] = true
all f (b ∷ s) = f b && all f s

-- Plain bytes, at least one.
abbrev pub is_word : List ℕ → Bool
is_word [] = false
is_word (b ∷ s) = all is_plain (b ∷ s)

abbrev pub are_words : List (List ℕ) → Bool
are_words [] = true
are_words (w ∷ ws) = is_word w && are_words ws

pub all_append : (f : ℕ → Bool) (s t : List ℕ) → all f s ≡ true → all f t ≡ true → all f (s ++ t) ≡ true
all_append f [] t h k = k
all_append f (b ∷ s) t h k = let g = both (f b) (all f s) h in and_both g.0 (all_append f s t g.1 k)

all_weaken : (f g : ℕ → Bool) → ((b : ℕ) → f b ≡ true → g b ≡ true) → (s : List ℕ) → all f s ≡ true → all g s ≡ true
all_weaken f g w [] h = refl
all_weaken f g w (b ∷ s) h = let k = both (f b) (all f s) h in and_both (w b k.0) (all_weaken f g w s k.1)

pub all-bytes : (s : List ℕ) → all is_byte s ≡ true → (i : ℕ) → i < length s → get_or s i 0 < 256
all-bytes [] h i l = absurd (omega arith)
all-bytes (b ∷ s) h zero l = ltb-true b 256 (both (is_byte b) (all is_byte s) h).0
all-bytes (b ∷ s) h (suc i) l = all-bytes s (both (is_byte b) (all is_byte s) h).1 i (omega arith)

plain_inner : (b : ℕ) → is_plain b ≡ true → is_inner b ≡ true
plain_inner b h = search rules

pub inner_byte : (s : List ℕ) → all is_inner s ≡ true → all is_byte s ≡ true
inner_byte s h = all_weaken is_inner is_byte (λ b k. (both (not (eqb b 10)) (is_byte b) k).1) s h

pub word-plain : (w : List ℕ) → is_word w ≡ true → all is_plain w ≡ true
word-plain [] h = cc
word-plain (b ∷ s) h = h

-- LINES
line_byte : (u : List ℕ) (b : ℕ) (s : List ℕ) → is_inner b ≡ true → lines_from u (b ∷ s) ≡ lines_from (u ++ (b ∷ [])) s
unfolding lines_from
line_byte u b s h = search rules

line-bytes : (u l r : List ℕ) → all is_inner l ≡ true → lines_from u (l ++ r) ≡ lines_from (u ++ l) r
line-bytes u [] r h = ap (λ (x : List ℕ). lines_from x r) (sym (append-nil u))
line-bytes u (b ∷ l) r h =
    let k = both (is_inner b) (all is_inner l) h in
    line_byte u b (l ++ r) k.0
    ∙ line-bytes (u ++ (b ∷ [])) l r k.1
    ∙ ap (λ (x : List ℕ). lines_from x r) (append_assoc u (b ∷ []) l)

-- A line and the LF after it.
pub line-back : (l r : List ℕ) → all is_inner l ≡ true → lines (l ++ (10 ∷ r)) ≡ l ∷ lines r
unfolding lines_from
line-back l r h = line-bytes [] l (10 ∷ r) h

-- WORDS
word_byte : (u : List ℕ) (b : ℕ) (s : List ℕ) → is_plain b ≡ true → words_from u (b ∷ s) ≡ words_from (u ++ (b ∷ [])) s
unfolding words_from
word_byte u b s h = search rules

word_bytes : (u w r : List ℕ) → all is_plain w ≡ true → words_from u (w ++ r) ≡ words_from (u ++ w) r
word_bytes u [] r h = ap (λ (x : List ℕ). words_from x r) (sym (append-nil u))
word_bytes u (b ∷ w) r h =
    let k = both (is_plain b) (all is_plain w) h in
    word_byte u b (w ++ r) k.0
    ∙ word_bytes (u ++ (b ∷ [])) w r k.1
    ∙ ap (λ (x : List ℕ). words_from x r) (append_assoc u (b ∷ []) w)

last_word : (w : List ℕ) → is_word w ≡ true → words w ≡ w ∷ []
unfolding words_from
last_word [] h = cc
last_word (b ∷ s) h = ap words (sym (append-nil (b ∷ s))) ∙ word_bytes [] (b ∷ s) [] h

first_word : (w r : List ℕ) → is_word w ≡ true → words (w ++ (32 ∷ r)) ≡ w ∷ words r
unfolding words_from
first_word [] r h = cc
first_word (b ∷ s) r h = word_bytes [] (b ∷ s) (32 ∷ r) h

pub words_back : (ws : List (List ℕ)) → are_words ws ≡ true → words (spaced ws) ≡ ws
unfolding spaced words_from
words_back [] h = refl
words_back (w ∷ []) h = last_word w (both (is_word w) true h).0
words_back (w ∷ v ∷ ws) h =
    let k = both (is_word w) (are_words (v ∷ ws)) h in
    first_word w (spaced (v ∷ ws)) k.0 ∙ ap (λ (x : List (List ℕ)). w ∷ x) (words_back (v ∷ ws) k.1)

-- Such words make a line.
word_inner : (w : List ℕ) → is_word w ≡ true → all is_inner w ≡ true
word_inner w h = all_weaken is_plain is_inner plain_inner w (word-plain w h)

pub words_inner : (ws : List (List ℕ)) → are_words ws ≡ true → all is_inner (spaced ws) ≡ true
unfolding spaced
words_inner [] h = refl
words_inner (w ∷ []) h = word_inner w (both (is_word w) true h).0
words_inner (w ∷ v ∷ ws) h =
    let k = both (is_word w) (are_words (v ∷ ws)) h in
    all_append is_inner w (32 ∷ spaced (v ∷ ws)) (word_inner w k.0) (words_inner (v ∷ ws) k.1)

-- DECIMALS
digit-plain : (b : ℕ) → 48 ≤ b → b ≤ 57 → is_plain b ≡ true
digit-plain b l h = search rules

digits-plain : (s : List ℕ) → AllDigits s → all is_plain s ≡ true
digits-plain [] d = refl
digits-plain (b ∷ s) d = let k = is-between 48 57 b d.0 in and_both (digit-plain b k.0 k.1) (digits-plain s d.1)

leading-word : (s : List ℕ) → Leading s → is_word s ≡ true
leading-word [] l = absurd l
leading-word (b ∷ s) l = and_both (digit-plain b (omega arith) l.1) (digits-plain s l.2)

plain_word : {s : List ℕ} → Plain s → is_word s ≡ true
plain_word is_zero = refl
plain_word (is_positive {s} l) = leading-word s l
plain_word (is_negative {s} l) = word-plain s (leading-word s l)

pub decimal-word : (z : ℤ) → is_word (decimal z) ≡ true
decimal-word z = plain_word (decimal-plain z)
