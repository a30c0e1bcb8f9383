-- A word compared with a name, byte by byte and by their keys. Assumes nothing.
use Prim.Native.Nat.{ℕ, zero, suc, ◌+◌, ◌*◌, ◌-◌, ◌^◌, ◌≤◌, ◌<◌}
use mathlib.Core.Path.{◌≡◌, refl, sym, ap, ◌∙◌}
use mathlib.Core.Bool.{Bool, true, false, ◌&&◌, and-false, cond, true≢false}
use mathlib.Core.List.{List, [], ◌∷◌, map}
use native.Mathlib.Nat.{zero-add, lt_of_lt_of_le}
use native.Mathlib.Numerals.{add-one}
use native.Mathlib.Omega.{arith}
use lib.Dec.{eqb, ltb, leb}
use lib.ListN.{length, get_or, take, drop, drop_of_length-le}
use lib.Pow.{pow-add, pow_mono}
use lib.Seq.{drop-cons}
use borrow.Author.Tests.{eq-eqb, ne_eqb, eqb-true, ltb-true, lt-leb}
use Rattle.model.specs.Numbers.{bytes, upper}
use Rattle.model.specs.Load.{same_word, lookup_from, names, lookup}
use Rattle.model.proofs.Fits.{both, and_both, by_cond}
use Rattle.loader.specs.Keys.{key_from, key_of, key_table, slot_of, slotted, place_from, Finds}
use Rattle.std.proofs.Common.{Option, Some}
use Rattle.std.specs.List.{list_all, zip, position}
use Rattle.std.specs.Option.{option_map}

-- BYTE BY BYTE
pub other_length : (w n : List ℕ) → ¬ (length w ≡ length n) → same_word w n ≡ false
unfolding same_word
other_length [] [] h = absurd (h refl)
other_length [] (y ∷ ys) h = refl
other_length (x ∷ xs) [] h = refl
other_length (x ∷ xs) (y ∷ ys) h = simp (same_word, other_length xs ys (λ e. h (ap suc e)), and-false)

abbrev pub same-byte : ℕ × ℕ → Bool
same-byte p = eqb (upper p.0) p.1

pub same_length : (w n : List ℕ) → length w ≡ length n → list_all same-byte (zip w n) ≡ same_word w n
unfolding same_word
same_length [] [] h = refl
same_length [] (y ∷ ys) h = absurd (omega arith)
same_length (x ∷ xs) [] h = absurd (omega arith)
same_length (x ∷ xs) (y ∷ ys) h = ap (λ (b : Bool). eqb (upper x) y && b) (same_length xs ys (omega arith))

-- KEYS
pub key-end : (k : ℕ) (w : List ℕ) (i : ℕ) → length w ≤ i → key_from k (drop i w) ≡ k
unfolding key_from
key-end k w i h = rw (drop_of_length-le w h)

pub key_byte : (k : ℕ) (w : List ℕ) (i : ℕ) → i < length w → key_from k (drop i w) ≡ key_from (k * 256 + upper (get_or w i 0)) (drop (i + 1) w)
unfolding key_from
key_byte k w i h = rw (add-one, drop-cons w i 0 h) refl

-- A key of i bytes needs 8 i + 1 bits.
pub key-bits : (k u i : ℕ) → k < 2 ^ (8 * i + 1) → u < 256 → k * 256 + u < 2 ^ (8 * (i + 1) + 1)
key-bits k u i h l =
    let e : 8 * (i + 1) + 1 ≡ 8 + (8 * i + 1) = omega arith in
    rw e (omega (arith, pow-add 2 8 (8 * i + 1)))

pub key_fits : (k u i : ℕ) → k < 2 ^ (8 * i + 1) → i < 7 → u < 256 → k * 256 + u < 2 ^ 57
key_fits k u i h l b = lt_of_lt_of_le (key-bits k u i h b) (pow_mono {i = 8 * (i + 1) + 1} {j = 57} (omega arith))

-- All of these bytes are below 256.
abbrev pub Bytes : List ℕ → Type 0
Bytes w = (i : ℕ) → get_or w i 0 < 256

upper_byte : (b : ℕ) → b < 256 → upper b < 256
upper_byte b h = by_cond (λ (x : ℕ). x < 256) (leb 97 b && leb b 122) (b - 32) b (λ e. omega arith) (λ e. h)

-- A name has capitals, or other bytes that have no capital.
abbrev capitals : List ℕ → Bool
capitals [] = true
capitals (y ∷ ys) = (eqb (upper y) y && ltb y 256) && capitals ys

-- A key is no less than what its bytes stand behind.
key_grows : (k : ℕ) (w : List ℕ) → k ≤ key_from k w
unfolding key_from
key_grows k [] = omega arith
key_grows k (b ∷ s) = let i = key_grows (k * 256 + upper b) s in omega arith

-- Equal keys behind numbers of one size, between z and 2 z, are those of one word: a shorter word would have a smaller key.
module _ where
  equal_keys : (z a b : ℕ) (w n : List ℕ) → Bytes w → capitals n ≡ true → z ≤ a → a < 2 * z → z ≤ b → b < 2 * z → key_from a w ≡ key_from b n →
      (a ≡ b) × (same_word w n ≡ true)
  unfolding key_from same_word
  equal_keys z a b [] [] hw hn al ah bl bh e = (e, refl)
  equal_keys z a b [] (y ∷ ys) hw hn al ah bl bh e = let g = key_grows (b * 256 + upper y) ys in absurd (omega arith)
  equal_keys z a b (x ∷ xs) [] hw hn al ah bl bh e = let g = key_grows (a * 256 + upper x) xs in absurd (omega arith)
  equal_keys z a b (x ∷ xs) (y ∷ ys) hw hn al ah bl bh e =
      let k = both (eqb (upper y) y && ltb y 256) (capitals ys) hn in
      let j = both (eqb (upper y) y) (ltb y 256) k.0 in
      let u : upper x < 256 = upper_byte x (hw 0) in
      let v : upper y ≡ y = eqb-true (upper y) y j.0 in
      let l : y < 256 = ltb-true y 256 j.1 in
      let i =
      equal_keys (z * 256) (a * 256 + upper x) (b * 256 + upper y) xs ys (λ m. hw (suc m)) k.1 (omega arith) (omega arith)
      (omega arith) (omega arith) e in
      let q : upper x ≡ y = omega (arith, i.0) in
      (omega (arith, i.0), and_both (eq-eqb (upper x) y q) i.1)

same_keys : (k : ℕ) (w n : List ℕ) → capitals n ≡ true → same_word w n ≡ true → key_from k w ≡ key_from k n
unfolding key_from same_word
same_keys k [] [] hn h = refl
same_keys k [] (y ∷ ys) hn h = cc
same_keys k (x ∷ xs) [] hn h = cc
same_keys k (x ∷ xs) (y ∷ ys) hn h =
    let c = both (eqb (upper y) y && ltb y 256) (capitals ys) hn in
    let v : upper y ≡ y = eqb-true (upper y) y (both (eqb (upper y) y) (ltb y 256) c.0).0 in
    let j = both (eqb (upper x) y) (same_word xs ys) h in
    ap (λ (u : ℕ). key_from (k * 256 + u) xs) (eqb-true (upper x) y j.0 ∙ sym v) ∙ same_keys (k * 256 + upper y) xs ys c.1 j.1

-- A word is a name exactly when it has its key.
same_key : (w n : List ℕ) → Bytes w → capitals n ≡ true → same_word w n ≡ eqb (key_of n) (key_of w)
same_key w n hw hn = go (same_word w n) refl
  where
    go : (b : Bool) → same_word w n ≡ b → b ≡ eqb (key_of n) (key_of w)
    go true e = sym (eq-eqb (key_of n) (key_of w) (sym (same_keys 1 w n hn e)))
    go false e =
        sym (ne_eqb (key_of n) (key_of w)
        (λ q. true≢false (sym (equal_keys 1 1 1 w n hw hn (omega arith) (omega arith) (omega arith) (omega arith) (sym q)).1 ∙ e)))

-- LOOKUP
abbrev all_capitals : List (List ℕ) → Bool
all_capitals [] = true
all_capitals (n ∷ ns) = capitals n && all_capitals ns

name_here : (k : ℕ) (w n : List ℕ) (ns : List (List ℕ)) → same_word w n ≡ true → lookup_from k w (n ∷ ns) ≡ k
unfolding lookup_from
name_here k w n ns e = simp (lookup_from, e)

name-later : (k : ℕ) (w n : List ℕ) (ns : List (List ℕ)) → same_word w n ≡ false → lookup_from k w (n ∷ ns) ≡ lookup_from (suc k) w ns
unfolding lookup_from
name-later k w n ns e = simp (lookup_from, e)

key_here : (n k x : ℕ) (xs : List ℕ) → eqb x k ≡ true → place_from n k (x ∷ xs) ≡ n
unfolding place_from
key_here n k x xs e = simp (place_from, e)

key-later : (n k x : ℕ) (xs : List ℕ) → eqb x k ≡ false → place_from n k (x ∷ xs) ≡ place_from (suc n) k xs
unfolding place_from
key-later n k x xs e = simp (place_from, e)

no_place : (n k : ℕ) → place_from n k [] ≡ 0
unfolding place_from
no_place n k = refl

-- Names are looked up by their keys.
by_keys : (k : ℕ) (w : List ℕ) (ns : List (List ℕ)) → Bytes w → all_capitals ns ≡ true → lookup_from k w ns ≡ place_from k (key_of w) (map key_of ns)
unfolding lookup_from place_from
by_keys k w [] hw hn = refl
by_keys k w (n ∷ ns) hw hn =
    let h = both (capitals n) (all_capitals ns) hn in
    go (same_word w n) refl (same_key w n hw h.0) (by_keys (suc k) w ns hw h.1)
  where
    go : (b : Bool) → same_word w n ≡ b → same_word w n ≡ eqb (key_of n) (key_of w) →
        lookup_from (suc k) w ns ≡ place_from (suc k) (key_of w) (map key_of ns) →
        lookup_from k w (n ∷ ns) ≡ place_from k (key_of w) (map key_of (n ∷ ns))
    go true e s i = name_here k w n ns e ∙ sym (key_here k (key_of w) (key_of n) (map key_of ns) (sym s ∙ e))
    go false e s i = name-later k w n ns e ∙ i ∙ sym (key-later k (key_of w) (key_of n) (map key_of ns) (sym s ∙ e))

-- Every name of ns has a length that f allows.
abbrev lengths : (ℕ → Bool) → List (List ℕ) → Bool
lengths f [] = true
lengths f (n ∷ ns) = f (length n) && lengths f ns

-- A word whose length the first j names do not have.
other-lengths : (f : ℕ → Bool) (j k : ℕ) (w : List ℕ) (ns : List (List ℕ)) → lengths f (take j ns) ≡ true → f (length w) ≡ false →
    lookup_from k w ns ≡ lookup_from (j + k) w (drop j ns)
unfolding lookup_from
other-lengths f zero k w ns h l = ap (λ (m : ℕ). lookup_from m w ns) (sym (zero-add k))
other-lengths f (suc j) k w [] h l = refl
other-lengths f (suc j) k w (n ∷ ns) h l =
    let g = both (f (length n)) (lengths f (take j ns)) h in
    name-later k w n ns (other_length w n (λ e. true≢false (sym g.0 ∙ sym (ap f e) ∙ l)))
    ∙ other-lengths f j (suc k) w ns g.1 l
    ∙ ap (λ (m : ℕ). lookup_from m w (drop j ns)) (omega arith)

-- The first four names have eight bytes or more, and the others six at most.
pub short-word : (w : List ℕ) → Bytes w → length w ≤ 7 → lookup w ≡ place_from 5 (key_of w) key_table
unfolding names key_table
short-word w hw h = other-lengths (leb 8) 4 1 w names refl (lt-leb 8 (length w) (omega arith)) ∙ by_keys 5 w (drop 4 names) hw refl

name_choice : (k : ℕ) (w n : List ℕ) (ns : List (List ℕ)) → lookup_from k w (n ∷ ns) ≡ cond (same_word w n) k (lookup_from (suc k) w ns)
name_choice k w n ns = go (same_word w n) refl
  where
    go : (b : Bool) → same_word w n ≡ b → lookup_from k w (n ∷ ns) ≡ cond b k (lookup_from (suc k) w ns)
    go true e = name_here k w n ns e
    go false e = name-later k w n ns e

long-word : (w : List ℕ) → 8 ≤ length w →
    lookup w
    ≡ cond (same_word w (bytes "CLEAR_REG")) 1
    (cond (same_word w (bytes "CLEAR_DATA_MEM")) 2 (cond (same_word w (bytes "DUMP_REG")) 3 (cond (same_word w (bytes "DUMP_DATA_MEM")) 4 0)))
unfolding names lookup_from
long-word w h =
    let short : lookup_from 5 w (drop 4 names) ≡ 0 = other-lengths (λ (n : ℕ). leb n 7) 51 5 w (drop 4 names) refl (lt-leb (length w) 7 h) in
    name_choice 1 w _ (drop 1 names)
    ∙ ap (cond (same_word w (bytes "CLEAR_REG")) 1)
    (name_choice 2 w _ (drop 2 names)
    ∙ ap (cond (same_word w (bytes "CLEAR_DATA_MEM")) 2)
    (name_choice 3 w _ (drop 3 names)
    ∙ ap (cond (same_word w (bytes "DUMP_REG")) 3)
    (name_choice 4 w _ (drop 4 names) ∙ ap (cond (same_word w (bytes "DUMP_DATA_MEM")) 4) short)))

-- The first of four tests that passes, counted from 1.
first-of : (a b c d : Bool) (r : Option ℕ) → r ≡ position (λ (x : Bool). x) (a ∷ b ∷ c ∷ d ∷ []) →
    Finds (option_map (λ (i : ℕ). 1 + i) r) (cond a 1 (cond b 2 (cond c 3 (cond d 4 0))))
first-of true b c d r e = rw e (refl, omega arith)
first-of false true c d r e = rw e (refl, omega arith)
first-of false false true d r e = rw e (refl, omega arith)
first-of false false false true r e = rw e (refl, omega arith)
first-of false false false false r e = rw e refl

pub long-found : (w : List ℕ) → 8 ≤ length w →
    Finds (option_map (λ (i : ℕ). 1 + i) (position (same_word w) (bytes "CLEAR_REG" ∷ bytes "CLEAR_DATA_MEM" ∷ bytes "DUMP_REG" ∷ bytes "DUMP_DATA_MEM" ∷ []))) (lookup w)
long-found w h = rw (long-word w h) (first-of _ _ _ _ _ refl)

pub table-length : length key_table ≡ 51
unfolding key_table names
table-length = refl

-- A KEY BY ITS SLOT
slot-rule : (i : ℕ) (slots ks : List ℕ) → slotted i slots ks ≡ true → (j : ℕ) → j < length ks → get_or slots (slot_of (get_or ks j 0)) 0 ≡ i + j
unfolding slotted
slot-rule i slots [] h j l = absurd (omega arith)
slot-rule i slots (k ∷ ks) h zero l =
    let e : i ≡ i + 0 = omega arith in
    eqb-true (get_or slots (slot_of k) 0) i (both (eqb (get_or slots (slot_of k) 0) i) (slotted (suc i) slots ks) h).0 ∙ e
slot-rule i slots (k ∷ ks) h (suc j) l =
    let e : suc i + j ≡ i + suc j = omega arith in
    slot-rule (suc i) slots ks (both (eqb (get_or slots (slot_of k) 0) i) (slotted (suc i) slots ks) h).1 j (omega arith) ∙ e

-- A key that stands nowhere, and one that stands first at s.
absent : (n k : ℕ) (xs : List ℕ) → ((j : ℕ) → j < length xs → ¬ (get_or xs j 0 ≡ k)) → place_from n k xs ≡ 0
absent n k [] h = no_place n k
absent n k (x ∷ xs) h = key-later n k x xs (ne_eqb x k (h 0 (omega arith))) ∙ absent (suc n) k xs (λ j l. h (suc j) (omega arith))

present : (n k : ℕ) (xs : List ℕ) (s : ℕ) → s < length xs → get_or xs s 0 ≡ k → ((j : ℕ) → j < s → ¬ (get_or xs j 0 ≡ k)) → place_from n k xs ≡ s + n
present n k [] s l e h = absurd (omega arith)
present n k (x ∷ xs) zero l e h = key_here n k x xs (eq-eqb x k e) ∙ sym (zero-add n)
present n k (x ∷ xs) (suc s) l e h =
    let q : s + suc n ≡ suc s + n = omega arith in
    key-later n k x xs (ne_eqb x k (h 0 (omega arith))) ∙ present (suc n) k xs s (omega arith) e (λ j m. h (suc j) (omega arith)) ∙ q

module _ (slots : List ℕ) (h : slotted 0 slots key_table ≡ true) (key s : ℕ) (e : get_or slots (slot_of key) 0 ≡ s) where
  -- No other place than the slot's has the key.
  only : (j : ℕ) → j < length key_table → get_or key_table j 0 ≡ key → s ≡ j
  only j l q = sym e ∙ ap (λ (k : ℕ). get_or slots (slot_of k) 0) (sym q) ∙ slot-rule 0 slots key_table h j l ∙ zero-add j

  pub slot-found : s < length key_table → get_or key_table s 0 ≡ key → Finds (Some (s + 5)) (place_from 5 key key_table)
  slot-found l q = let e = present 5 key key_table s l q (λ j m z. let o = only j (omega arith) z in absurd (omega arith)) in (sym e, omega (arith, e))

  pub slot_past : length key_table ≤ s → place_from 5 key key_table ≡ 0
  slot_past l = absent 5 key key_table (λ j m z. let o = only j m z in absurd (omega arith))

  pub slot_other : ¬ (get_or key_table s 0 ≡ key) → place_from 5 key key_table ≡ 0
  slot_other n = absent 5 key key_table (λ j m z. n (ap (λ (x : ℕ). get_or key_table x 0) (only j m z) ∙ z))
