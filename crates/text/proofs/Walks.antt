-- Tokens, words and lines by the places that `find` and `find_from` find. Assumes nothing.
use Prim.Native.Nat.{ℕ, suc, ◌+◌, ◌-◌, ◌≤◌, ◌<◌, min}
use mathlib.Core.Path.{◌≡◌, refl, sym, ap, ◌∙◌, subst}
use mathlib.Core.Bool.{Bool, true, false, not, ◌||◌}
use mathlib.Core.List.{List, [], ◌∷◌, ◌++◌, append-nil}
use native.Mathlib.Numerals.{one-add}
use native.Mathlib.Omega.{arith}
use lib.ListN.{length, drop, take, get_or, length-append}
use lib.Seq.{append_snoc}
use lib.Dec.{ltb}
use native.Mathlib.Decide.{dec_lt}
use borrow.Author.Tests.{lt-ltb, le-ltb}
use Rattle.std.proofs.Common.{Some, None, cond}
use Rattle.std.specs.List.{position, position_or_len}
use Rattle.std.proofs.lemmas.List.Sums.{prefix_len-le-length}
use Rattle.std.proofs.lemmas.List.{drop-drop, drop_min}
use Rattle.std.proofs.lemmas.List.Folds.{length-prefix_len}
use Rattle.model.specs.Numbers.{is_blank}
use Rattle.model.specs.Load.{keep, is_comment, is_separator, lines_from, lines, words_from, words}
use Rattle.model.specs.Step.{blanks_of, token_of}
use Rattle.text.specs.Parts.{part}
use Rattle.text.specs.Find.{first_from}
use Rattle.text.specs.Lines.{is_line_feed}
use Rattle.text.specs.Tokens.{NextToken}
use Rattle.text.proofs.Among.{among-fails}

-- The part up to the place that is found.
part-found : (test : ℕ → Bool) (t : List ℕ) (a b : ℕ) → b ≡ first_from test t a → part a b t ≡ take (position_or_len test (drop a t)) (drop a t)
part-found test t a b e = let k : b - a ≡ position_or_len test (drop a t) = omega (arith, e) in ap (λ (n : ℕ). take n (drop a t)) k

-- TOKENS
abbrev pub no-blank : ℕ → Bool
no-blank b = not (is_blank b)

blanks-counted : (s : List ℕ) → blanks_of s ≡ position_or_len no-blank s
unfolding blanks_of
blanks-counted [] = refl
blanks-counted (b ∷ s) = go (is_blank b) refl (blanks-counted s)
  where
    go : (x : Bool) → is_blank b ≡ x → blanks_of s ≡ position_or_len no-blank s → blanks_of (b ∷ s) ≡ position_or_len no-blank (b ∷ s)
    go true e h = simp (blanks_of, e) (omega (arith, h))
    go false e h = simp (blanks_of, e)

token-taken : (s : List ℕ) → token_of s ≡ take (position_or_len is_blank s) s
unfolding token_of
token-taken [] = refl
token-taken (b ∷ s) = go (is_blank b) refl (token-taken s)
  where
    go : (x : Bool) → is_blank b ≡ x → token_of s ≡ take (position_or_len is_blank s) s → token_of (b ∷ s) ≡ take (position_or_len is_blank (b ∷ s)) (b ∷ s)
    go true e h = simp (token_of, e)
    go false e h = simp (token_of, e, one-add) (ap (λ (w : List ℕ). b ∷ w) h)

-- What `position` says of a byte that is no blank.
first-byte : (w : List ℕ) (i : ℕ) → position no-blank w ≡ Some i → (i ≡ position_or_len no-blank w) × (i < length w)
first-byte w i e = go (position_or_len no-blank w) (dec_lt (position_or_len no-blank w) (length w)) e
  where
    go : (k : ℕ) → Dec (k < length w) → cond (ltb k (length w)) (Some k) None ≡ Some i → (i ≡ k) × (i < length w)
    go k (yes l) e = let f : i ≡ k = let h = rw (lt-ltb k (length w) l) at e in cc in (f, omega arith)
    go k (no g) e = let h = rw (le-ltb k (length w) (omega arith)) at e in absurd cc

pub only-blanks : (w : List ℕ) → position no-blank w ≡ None → blanks_of w ≡ length w
only-blanks w e = blanks-counted w ∙ go (position_or_len no-blank w) (prefix_len-le-length (λ b. not (no-blank b)) w) (dec_lt (position_or_len no-blank w) (length w)) e
  where
    go : (k : ℕ) → k ≤ length w → Dec (k < length w) → cond (ltb k (length w)) (Some k) None ≡ None → k ≡ length w
    go k h (yes l) e = let h = rw (lt-ltb k (length w) l) at e in absurd cc
    go k h (no g) e = omega arith

-- There is no blank in its first place.
token-byte : (w : List ℕ) → position_or_len no-blank w < length w → 0 < position_or_len is_blank (drop (position_or_len no-blank w) w)
token-byte [] h = absurd (omega arith)
token-byte (b ∷ w) h = go (is_blank b) refl (token-byte w) h
  where
    go : (x : Bool) → is_blank b ≡ x → (position_or_len no-blank w < length w → 0 < position_or_len is_blank (drop (position_or_len no-blank w) w)) →
        position_or_len no-blank (b ∷ w) < length (b ∷ w) → 0 < position_or_len is_blank (drop (position_or_len no-blank (b ∷ w)) (b ∷ w))
    go true e k h = simp (e, one-add) (k (omega (arith, simp (e, one-add) at h)))
    go false e k h = simp (e, one-add) (omega arith)

pub token-found : (t : List ℕ) (p i b : ℕ) → position no-blank (drop p t) ≡ Some i → b ≡ first_from is_blank t (p + i) → b ≤ length t →
    NextToken t p (p + i) b × (p + i < b)
token-found t p i b e f h =
    let a = p + i in
    let first = first-byte (drop p t) i e in
    let taken = token-taken (drop a t) in
    let size = ap length taken ∙ length-prefix_len (λ b. not (is_blank b)) (drop a t) in
    let byte = rw (← first.0) at (token-byte (drop p t) (omega (arith, first.0, first.1))) in (
      record {
        blanks = ap (λ (n : ℕ). p + n) (first.0 ∙ sym (blanks-counted (drop p t)));
        ordered = omega (arith, f);
        high = h;
        place = omega (arith, f, size);
        token = part-found is_blank t a b f ∙ sym taken;
      },
      omega (arith, f, rw (drop-drop i p t) at byte),
    )

keep-few : (w : List ℕ) (ws : List (List ℕ)) → length (keep w ws) ≤ length w + length ws
keep-few [] ws = omega arith
keep-few (b ∷ w) ws = omega arith

keep-some : (w : List ℕ) (ws : List (List ℕ)) → 0 < length w → keep w ws ≡ w ∷ ws
keep-some [] ws h = absurd (omega arith)
keep-some (b ∷ w) ws h = refl

-- WORDS
abbrev pub no-separator : ℕ → Bool
no-separator b = not (is_separator b)

abbrev pub ends-word : ℕ → Bool
ends-word b = is_comment b || is_separator b

word-stop : (w : List ℕ) (b : ℕ) (s : List ℕ) → ends-word b ≡ true → words_from w (b ∷ s) ≡ keep w (words (b ∷ s))
unfolding words_from
word-stop w b s h = go (is_comment b) refl h
  where
    go : (x : Bool) → is_comment b ≡ x → (x || is_separator b) ≡ true → words_from w (b ∷ s) ≡ keep w (words (b ∷ s))
    go true c h = simp (words_from, c)
    go false c h = simp (words_from, c, h)

empty-word : (b : ℕ) (s : List ℕ) → ends-word b ≡ true → is_separator b ≡ false → words (b ∷ s) ≡ []
unfolding words_from
empty-word b s h n = go (is_comment b) refl h
  where
    go : (x : Bool) → is_comment b ≡ x → (x || is_separator b) ≡ true → words (b ∷ s) ≡ []
    go true c h = simp (words_from, c)
    go false c h = cc

word_byte : (w : List ℕ) (b : ℕ) (s : List ℕ) → ends-word b ≡ false → words_from w (b ∷ s) ≡ words_from (w ++ (b ∷ [])) s
unfolding words_from
word_byte w b s h = go (is_comment b) refl h
  where
    go : (x : Bool) → is_comment b ≡ x → (x || is_separator b) ≡ false → words_from w (b ∷ s) ≡ words_from (w ++ (b ∷ [])) s
    go true c h = cc
    go false c h = simp (words_from, c, h)

separator : (b : ℕ) (s : List ℕ) → is_separator b ≡ true → words (b ∷ s) ≡ words s
unfolding words_from
separator b s h = simp (words_from, among-fails is_comment (9 ∷ 13 ∷ 32 ∷ 44 ∷ []) b (refl, (refl, (refl, (refl, tt)))) h, h)

-- The words behind the separators in front.
separators-passed : (s : List ℕ) → words s ≡ words (drop (position_or_len no-separator s) s)
separators-passed [] = refl
separators-passed (b ∷ s) = go (is_separator b) refl (separators-passed s)
  where
    go : (x : Bool) → is_separator b ≡ x → words s ≡ words (drop (position_or_len no-separator s) s) →
        words (b ∷ s) ≡ words (drop (position_or_len no-separator (b ∷ s)) (b ∷ s))
    go true e h = separator b s e ∙ simp (e, one-add) h
    go false e h = simp e

-- The first byte of a list, if there is one, is no separator.
abbrev Stops : List ℕ → Type 0
Stops [] = Unit {0}
Stops (b ∷ s) = is_separator b ≡ false

separators-stop : (s : List ℕ) → Stops (drop (position_or_len no-separator s) s)
separators-stop [] = tt
separators-stop (b ∷ s) = go (is_separator b) refl (separators-stop s)
  where
    go : (x : Bool) → is_separator b ≡ x → Stops (drop (position_or_len no-separator s) s) → Stops (drop (position_or_len no-separator (b ∷ s)) (b ∷ s))
    go true e h = simp (e, one-add) h
    go false e h = simp e

-- A word up to the byte that ends it.
word-taken : (s w : List ℕ) → words_from w s ≡ keep (w ++ take (position_or_len ends-word s) s) (words (drop (position_or_len ends-word s) s))
unfolding words_from
word-taken [] w = rw (append-nil w)
word-taken (b ∷ s) w = go (ends-word b) refl (word-taken s (w ++ (b ∷ [])))
  where
    go : (x : Bool) → ends-word b ≡ x →
        words_from (w ++ (b ∷ [])) s ≡ keep ((w ++ (b ∷ [])) ++ take (position_or_len ends-word s) s) (words (drop (position_or_len ends-word s) s)) →
        words_from w (b ∷ s) ≡ keep (w ++ take (position_or_len ends-word (b ∷ s)) (b ∷ s)) (words (drop (position_or_len ends-word (b ∷ s)) (b ∷ s)))
    go true e h = word-stop w b s e ∙ simp (e, append-nil)
    go false e h = word_byte w b s e ∙ simp (e, one-add) (h ∙ simp append_snoc)

-- A word that is empty stands where no more come.
no-word : (s : List ℕ) → Stops s → position_or_len ends-word s ≡ 0 → words s ≡ []
unfolding words_from
no-word [] h e = refl
no-word (b ∷ s) h e = go (ends-word b) refl
  where
    go : (x : Bool) → ends-word b ≡ x → words (b ∷ s) ≡ []
    go true k = empty-word b s k h
    go false k = let z : 1 + position_or_len ends-word s ≡ 0 = simp k at e in absurd (omega arith)

-- The word that stands behind the separators in front, and the bytes behind it.
module _ (l : List ℕ) {s : List ℕ} {j : ℕ} (e : s ≡ drop (position_or_len no-separator l) l) (f : j ≡ position_or_len ends-word s) where
  front : words l ≡ words s
  front = separators-passed l ∙ ap words (sym e)

  pub first_word : ¬ (length (take j s) ≡ 0) → words l ≡ take j s ∷ words (drop j s)
  first_word h = front ∙ rw f (word-taken s []) ∙ keep-some (take j s) _ (omega (arith, h))

  pub no_words : length (take j s) ≡ 0 → words l ≡ []
  no_words h =
      let size : length (take j s) ≡ j = rw f (length-prefix_len (λ b. not (ends-word b)) s) in
      front ∙ no-word s (subst Stops (sym e) (separators-stop l)) (omega (arith, f, size, h))

-- Each word has a byte.
words_from-few : (w l : List ℕ) → length (words_from w l) ≤ length w + length l
unfolding words_from
words_from-few w [] = keep-few w []
words_from-few w (b ∷ l) = go (is_comment b) (is_separator b) refl refl (words_from-few [] l) (words_from-few (w ++ (b ∷ [])) l)
  where
    go : (x y : Bool) → is_comment b ≡ x → is_separator b ≡ y → length (words l) ≤ 0 + length l →
        length (words_from (w ++ (b ∷ [])) l) ≤ length (w ++ (b ∷ [])) + length l → length (words_from w (b ∷ l)) ≤ length w + suc (length l)
    go true y e f h k = simp (words_from, e) (omega (arith, keep-few w []))
    go false true e f h k = simp (words_from, e, f) (omega (arith, keep-few w (words l), h))
    go false false e f h k = simp (words_from, e, f) (omega (arith, k, length-append w (b ∷ [])))

pub words_few : (l : List ℕ) → length (words l) ≤ length l
words_few l = omega (arith, words_from-few [] l)

-- LINES
-- A line up to the LF that ends it, or the text's end.
line-taken : (s w : List ℕ) → 0 < length w + length s →
    lines_from w s ≡ (w ++ take (position_or_len is_line_feed s) s) ∷ lines (drop (suc (position_or_len is_line_feed s)) s)
unfolding lines_from
line-taken [] w h = rw (append-nil w) (keep-some w [] (omega arith))
line-taken (b ∷ s) w h = go (is_line_feed b) refl (line-taken s (w ++ (b ∷ [])) (omega (arith, length-append w (b ∷ []))))
  where
    go : (x : Bool) → is_line_feed b ≡ x →
        lines_from (w ++ (b ∷ [])) s ≡ ((w ++ (b ∷ [])) ++ take (position_or_len is_line_feed s) s) ∷ lines (drop (suc (position_or_len is_line_feed s)) s) →
        lines_from w (b ∷ s) ≡ (w ++ take (position_or_len is_line_feed (b ∷ s)) (b ∷ s)) ∷ lines (drop (suc (position_or_len is_line_feed (b ∷ s))) (b ∷ s))
    go true e k = simp (lines_from, e, append-nil)
    go false e k = simp (lines_from, e, one-add) (k ∙ simp append_snoc)

-- The first line ends at its LF, and the others stand behind it.
pub first_line : (t : List ℕ) {end next : ℕ} → 0 < length t → end ≡ position_or_len is_line_feed t → next ≡ min (length t) (end + 1) → lines t ≡ take end t ∷ lines (drop next t)
first_line t {end} {next} h e n =
    let one : suc (position_or_len is_line_feed t) ≡ end + 1 = omega (arith, e) in
    let least : min (end + 1) (length t) ≡ next = omega (arith, n) in
    let behind = ap (λ (i : ℕ). drop i t) one ∙ sym (drop_min (end + 1) t) ∙ ap (λ (i : ℕ). drop i t) least in
    line-taken t [] (omega (arith, h)) ∙ ap (λ (i : ℕ). take i t ∷ lines (drop (suc (position_or_len is_line_feed t)) t)) (sym e) ∙ ap (λ (s : List ℕ). take end t ∷ lines s) behind

-- A text that begins with an LF begins with a line without bytes.
feed-first : (t : List ℕ) → get_or t 0 0 ≡ 10 → position_or_len is_line_feed t ≡ 0
feed-first [] h = refl
feed-first (b ∷ s) h = let e : is_line_feed b ≡ true = rw h refl in simp e

pub empty_line : (t : List ℕ) → 0 < length t → get_or t 0 0 ≡ 10 → lines t ≡ [] ∷ lines (drop 1 t)
empty_line t h e = first_line t {end = 0} {next = 1} h (sym (feed-first t e)) (omega arith)

pub no_lines : (t : List ℕ) → length t ≡ 0 → lines t ≡ []
unfolding lines_from
no_lines [] h = refl
no_lines (b ∷ t) h = absurd (omega arith)

-- Each line has a byte or an LF.
lines_from-few : (w t : List ℕ) → length (lines_from w t) ≤ length w + length t
unfolding lines_from
lines_from-few w [] = keep-few w []
lines_from-few w (b ∷ t) = go (is_line_feed b) refl (lines_from-few [] t) (lines_from-few (w ++ (b ∷ [])) t)
  where
    go : (x : Bool) → is_line_feed b ≡ x → length (lines t) ≤ 0 + length t →
        length (lines_from (w ++ (b ∷ [])) t) ≤ length (w ++ (b ∷ [])) + length t → length (lines_from w (b ∷ t)) ≤ length w + suc (length t)
    go true e h k = simp (lines_from, e) (omega (arith, h))
    go false e h k = simp (lines_from, e) (omega (arith, k, length-append w (b ∷ [])))

pub lines_few : (t : List ℕ) → length (lines t) ≤ length t
lines_few t = omega (arith, lines_from-few [] t)
