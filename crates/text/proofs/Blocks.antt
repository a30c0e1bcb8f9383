-- Looking for an LF in blocks of eight bytes. Assumes nothing.
use Prim.Native.Nat.{ℕ, zero, suc, ◌+◌, ◌*◌, ◌/◌, ◌≤◌}
use mathlib.Core.Path.{◌≡◌, refl, sym, ap, ◌∙◌, subst}
use mathlib.Core.Bool.{Bool, true, false, not, ◌&&◌}
use mathlib.Core.List.{List, [], ◌∷◌, ◌++◌}
use native.Mathlib.Omega.{arith}
use lib.ListN.{length, drop, take, length-drop, length-append}
use Rattle.std.proofs.Common.{Some, None, Bor}
use Rattle.std.specs.List.{fold, list_all, position_or_len}
use Rattle.std.specs.Slice.Iter.{chunks_exact_rest, chunks_exact_size, chunks_exact_steps}
use Rattle.std.proofs.lemmas.List.{drop-drop}
use lib.Seq.{take-append_seam, drop-append_seam}
use Rattle.std.specs.declared.slice.ChunksExact.{ChunksExact}
use Rattle.std.proofs.lemmas.Iterator.{YieldsList}
use Rattle.std.proofs.lemmas.Iterator.Splits.{YieldsList-from_shown_while}
use Rattle.text.specs.Lines.{is_line_feed}

abbrev pub no-feed : ℕ → Bool
no-feed b = not (is_line_feed b)

-- A test of each byte that no answer ends.
pub fold-all : (test : ℕ → Bool) (xs : List ℕ) (a : Bool) → fold (λ (x : Bool) (b : ℕ). x && test b) a xs ≡ (a && list_all test xs)
fold-all test [] true = refl
fold-all test [] false = refl
fold-all test (x ∷ xs) true = fold-all test xs (test x)
fold-all test (x ∷ xs) false = fold-all test xs false

-- The first n blocks.
abbrev pub blocks : ℕ → List ℕ → List (List ℕ)
blocks zero xs = []
blocks (suc n) xs = take 8 xs ∷ blocks n (drop 8 xs)

pub length-blocks : (n : ℕ) (xs : List ℕ) → length (blocks n xs) ≡ n
length-blocks zero xs = refl
length-blocks (suc n) xs = ap suc (length-blocks n (drop 8 xs))

one-block : (xs ys zs : List ℕ) → xs ≡ ys ++ zs → length ys ≡ 8 → blocks (length xs / 8) xs ≡ ys ∷ blocks (length zs / 8) zs
one-block xs ys zs e h =
    let n : length xs / 8 ≡ suc (length zs / 8) = omega (arith, ap length e, length-append ys zs, h) in
    let front : take 8 xs ≡ ys = ap (λ (k : ℕ). take k xs) (sym h) ∙ ap (take (length ys)) e ∙ take-append_seam ys zs in
    let back : drop 8 xs ≡ zs = ap (λ (k : ℕ). drop k xs) (sym h) ∙ ap (drop (length ys)) e ∙ drop-append_seam ys zs in
    ap (λ (k : ℕ). blocks k xs) n ∙ ap (λ (w : List ℕ). w ∷ blocks (length zs / 8) (drop 8 xs)) front ∙ ap (λ (w : List ℕ). ys ∷ blocks (length zs / 8) w) back

-- What `chunks_exact` gives.
abbrev shown : ChunksExact ℕ → List (List ℕ)
shown s = blocks (length (chunks_exact_rest s) / 8) (chunks_exact_rest s)

abbrev none-left : (s t : ChunksExact ℕ) → chunks_exact_size s ≡ 8 → chunks_exact_steps {A = ℕ} s None t → length (shown s) ≡ 0
none-left s t e h = length-blocks (length (chunks_exact_rest s) / 8) (chunks_exact_rest s) ∙ omega (arith, h.1.0, e)

abbrev one-more : (s : ChunksExact ℕ) (x : Bor (List ℕ)) (t : ChunksExact ℕ) → chunks_exact_size s ≡ 8 → chunks_exact_steps {A = ℕ} s (Some x) t →
    (chunks_exact_size t ≡ 8) × (shown s ≡ x.now ∷ shown t)
one-more s x t e h = (h.0 ∙ e, one-block _ _ _ h.1.0 (h.1.1 ∙ e))

pub blocks-shown : (rest : List ℕ) {s : ChunksExact ℕ} → chunks_exact_rest s ≡ rest → chunks_exact_size s ≡ 8 →
    YieldsList (chunks_exact_steps {A = ℕ}) (λ x. x.now) s (blocks (length rest / 8) rest)
blocks-shown rest {s} e h =
    subst (λ (xs : List ℕ). YieldsList (chunks_exact_steps {A = ℕ}) (λ x. x.now) s (blocks (length xs / 8) xs)) e
    (YieldsList-from_shown_while (chunks_exact_steps {A = ℕ}) (λ x. x.now) shown (λ s. chunks_exact_size s ≡ 8) none-left one-more s h)

abbrev pub has-feed : List ℕ → Bool
has-feed block = not (list_all no-feed block)

-- Past bytes that are no LF.
front-passed : (m : ℕ) (xs : List ℕ) → m ≤ length xs → list_all no-feed (take m xs) ≡ true → position_or_len is_line_feed xs ≡ m + position_or_len is_line_feed (drop m xs)
front-passed zero xs h e = omega arith
front-passed (suc m) [] h e = absurd (omega arith)
front-passed (suc m) (x ∷ xs) h e = go (is_line_feed x) refl e (front-passed m xs (omega arith))
  where
    go : (y : Bool) → is_line_feed x ≡ y → (not y && list_all no-feed (take m xs)) ≡ true →
        (list_all no-feed (take m xs) ≡ true → position_or_len is_line_feed xs ≡ m + position_or_len is_line_feed (drop m xs)) →
        position_or_len is_line_feed (x ∷ xs) ≡ suc m + position_or_len is_line_feed (drop m xs)
    go true k e ih = cc
    go false k e ih = simp k (omega (arith, ih e))

-- An LF is found behind the blocks that have none.
pub blocks-passed : (n : ℕ) (xs : List ℕ) → 8 * n ≤ length xs →
    8 * position_or_len has-feed (blocks n xs) + position_or_len is_line_feed (drop (8 * position_or_len has-feed (blocks n xs)) xs) ≡ position_or_len is_line_feed xs
blocks-passed zero xs h = omega arith
blocks-passed (suc n) xs h = go (list_all no-feed (take 8 xs)) refl (blocks-passed n (drop 8 xs) (omega (arith, length-drop 8 xs)))
  where
    k : ℕ
    k = position_or_len has-feed (blocks n (drop 8 xs))

    go : (y : Bool) → list_all no-feed (take 8 xs) ≡ y → 8 * k + position_or_len is_line_feed (drop (8 * k) (drop 8 xs)) ≡ position_or_len is_line_feed (drop 8 xs) →
        8 * position_or_len has-feed (blocks (suc n) xs) + position_or_len is_line_feed (drop (8 * position_or_len has-feed (blocks (suc n) xs)) xs) ≡ position_or_len is_line_feed xs
    go true e ih =
        let whole = front-passed 8 xs (omega arith) e in
        let two : 8 + 8 * k ≡ 8 * (1 + k) = omega arith in
        let back = ap (position_or_len is_line_feed) (drop-drop (8 * k) 8 xs ∙ ap (λ (i : ℕ). drop i xs) two) in
        simp e (omega (arith, whole, ih, back))
    go false e ih = simp e (omega arith)
