-- However a file is cut into chunks, the scan of them gives the settings of the whole file. Assumes nothing.
use Prim.Native.Nat.{ℕ, suc, ◌+◌, ◌*◌, ◌^◌, ◌≤◌, ◌<◌}
use mathlib.Core.Path.{◌≡◌, refl, sym, ap, subst, ◌∙◌}
use mathlib.Core.Bool.{Bool, true, false, cond, false≢true}
use mathlib.Core.List.{List, [], ◌∷◌, ◌++◌, flatten, foldl, foldl-append}
use mathlib.Core.Option.{Option, none, some}
use Rattle.std.specs.Prelude.{Some, None}
use Rattle.std.specs.Prelude as prelude
use native.Mathlib.Decide.{dec_lt}
use native.Mathlib.Nat.{add-zero, pow-suc, pow-le-pow_right}
use native.Mathlib.Numerals.{add-one}
use native.Mathlib.Omega.{arith}
use lib.Dec.{eqb}
use lib.ListN.{length, length-append}
use borrow.Author.Tests.{lt-ltb, le-leb, ne_eqb}
use Rattle.model.specs.Load.{keep}
use Rattle.model.specs.Numbers.{is_blank, is_digit, digits_from, mapped}
use Rattle.model.specs.declared.Parameters.{Parameters}
use Rattle.model.proofs.Fits.{and_both}
use Rattle.settings.specs.declared.Scan.{Scan}
use Rattle.model.specs.Settings.{fields_from, fields, setting, all_settings, zeros, five, settings}
use Rattle.settings.specs.Scans.{unread, shifted, with_word, ended, extends, extended, scanned, scanned_all, scan_of, five_of, settings_of}
use Rattle.settings.proofs.WordLaws.{digit-behind, settings_cons, fields-blank, fields_byte, Bad, bad-long, bad_other, bad-fields}
use Rattle.settings.proofs.ScanLaws.{Void, room, ended-none, ended-word, ended-sixth, scanned-blank, scanned-digit, scanned-bad, scanned_void}
use Rattle.std.proofs.Common.{rules}

-- FIVE WORDS
-- The parameters of k words, the last of which are p, and of those behind them.
abbrev finish : Parameters → ℕ → Option (List ℕ) → Parameters
finish p k none = zeros
finish p k (some vs) = cond (eqb (k + length vs) 5) (foldl shifted p vs) zeros

finish_cons : (p : Parameters) (k v : ℕ) (o : Option (List ℕ)) → finish (shifted p v) (k + 1) o ≡ finish p k (mapped (λ (vs : List ℕ). v ∷ vs) o)
finish_cons p k v none = refl
finish_cons p k v (some vs) =
    let e : k + 1 + length vs ≡ k + suc (length vs) = omega arith in
    ap (λ (n : ℕ). cond (eqb n 5) (foldl shifted (shifted p v) vs) zeros) e

finish_many : (p : Parameters) (k : ℕ) (o : Option (List ℕ)) → 6 ≤ k → finish p k o ≡ zeros
finish_many p k none h = refl
finish_many p k (some vs) h = simp (ne_eqb (k + length vs) 5 (λ e. omega arith))

five-finish : (o : Option (List ℕ)) → finish zeros 0 o ≡ five o
five-finish none = refl
five-finish (some []) = refl
five-finish (some (k ∷ [])) = refl
five-finish (some (k ∷ n ∷ [])) = refl
five-finish (some (k ∷ n ∷ s ∷ [])) = refl
five-finish (some (k ∷ n ∷ s ∷ b ∷ [])) = refl
five-finish (some (k ∷ n ∷ s ∷ b ∷ t ∷ [])) = refl
five-finish (some (k ∷ n ∷ s ∷ b ∷ t ∷ x ∷ vs)) =
    let m = length (k ∷ n ∷ s ∷ b ∷ t ∷ x ∷ vs) in
    simp (ne_eqb (0 + m) 5 (λ e. omega arith), ne_eqb m 5 (λ e. omega arith))

-- The parameters of a scan's words and of those behind them.
abbrev finishes : prelude.Option Scan → Option (List ℕ) → Parameters
finishes None o = zeros
finishes (Some a) o = finish a.last a.count o

finishes-end : (r : prelude.Option Scan) → five_of r ≡ finishes r (some [])
finishes-end None = refl
finishes-end (Some a) = ap (λ (n : ℕ). cond (eqb n 5) a.last zeros) (sym (add-zero a.count))

-- THE REST OF A FILE
pub settings_of_void : (s : List ℕ) (a : prelude.Option Scan) → Void a → settings_of (scanned_all a s) ≡ zeros
unfolding settings_of
settings_of_void [] a h = rw h
settings_of_void (b ∷ s) a h = settings_of_void s (scanned a b) (scanned_void a h b)

-- The scan has read w, the beginning of a word or of none.
record Holds (w : List ℕ) (a : Scan) : Type 0 where
  sized : length w ≡ a.digits
  short : a.digits ≤ 9
  valued : digits_from 0 w ≡ some a.value
  small : a.value < 10 ^ a.digits

-- The words behind w are finished from the end of w as from its beginning.
finish-ended : (w : List ℕ) (a : Scan) → Holds w a → (ws : List (List ℕ)) →
    finishes (ended a) (all_settings ws) ≡ finish a.last a.count (all_settings (keep w ws))
unfolding setting
finish-ended [] a h ws = rw (ended-none a (sym h.sized))
finish-ended (b ∷ w) a h ws = go (dec_lt a.count 5)
  where
    is : ¬ (a.digits ≡ 0)
    is e = omega (arith, h.sized)

    word : setting (b ∷ w) ≡ some a.value
    word = simp (setting, le-leb (length (b ∷ w)) 9 (omega (arith, h.sized, h.short)), h.valued)

    more : finish (shifted a.last a.value) (a.count + 1) (all_settings ws) ≡ finish a.last a.count (all_settings ((b ∷ w) ∷ ws))
    more = finish_cons a.last a.count a.value (all_settings ws) ∙ sym (ap (finish a.last a.count) (settings_cons (b ∷ w) ws (some a.value) word))

    go : Dec (a.count < 5) → finishes (ended a) (all_settings ws) ≡ finish a.last a.count (all_settings ((b ∷ w) ∷ ws))
    go (yes l) = rw (ended-word a is l) more
    go (no g) = rw (ended-sixth a is (omega arith)) (sym (finish_many (shifted a.last a.value) (a.count + 1) (all_settings ws) (omega arith)) ∙ more)

-- Before a word.
holds-none : (p : Parameters) (k : ℕ) → Holds [] (record { last = p; count = k; digits = 0; value = 0 })
unfolding digits_from
holds-none p k = search rules

holds-ended : (w : List ℕ) (a r : Scan) → Holds w a → ended a ≡ Some r → Holds [] r
holds-ended [] a r h e = let same : a ≡ r = cc (ended-none a (sym h.sized)) in subst (Holds []) same h
holds-ended (b ∷ w) a r h e = go (dec_lt a.count 5)
  where
    is : ¬ (a.digits ≡ 0)
    is e = omega (arith, h.sized)

    go : Dec (a.count < 5) → Holds [] r
    go (yes l) = let same : with_word a ≡ r = cc (ended-word a is l) in subst (Holds []) same (holds-none _ _)
    go (no g) = cc (ended-sixth a is (omega arith))

holds-digit : (w : List ℕ) (a : Scan) (b : ℕ) → Holds w a → extends a b ≡ true → Holds (w ++ (b ∷ [])) (extended a b)
holds-digit w a b h e =
    let r = room a b e in
    let more : 10 ^ (a.digits + 1) ≡ 10 ^ a.digits * 10 = ap (λ (n : ℕ). 10 ^ n) (add-one a.digits) ∙ pow-suc 10 a.digits in
    record {
      sized = length-append w (b ∷ []) ∙ omega (arith, h.sized);
      short = omega (arith, r.digits);
      valued = digit-behind w a.value b h.valued r.digit;
      small = omega (arith, h.small, r.high, more);
    }

bad_byte : (w : List ℕ) (a : Scan) (b : ℕ) → Holds w a → extends a b ≡ false → Bad (w ++ (b ∷ []))
bad_byte w a b h e = go (is_digit b) refl (dec_lt a.digits 9)
  where
    go : (x : Bool) → is_digit b ≡ x → Dec (a.digits < 9) → Bad (w ++ (b ∷ []))
    go false d l = bad_other w b d
    go true d (no g) = bad-long (w ++ (b ∷ [])) (omega (arith, length-append w (b ∷ []), h.sized))
    go true d (yes l) =
        let k : 10 ^ a.digits ≤ 10 ^ 8 = pow-le-pow_right {n = 10} (omega arith) {i = a.digits} {j = 8} (omega arith) in
        absurd (false≢true (sym e ∙ and_both d (and_both (lt-ltb _ _ l) (lt-ltb a.value 100_000_000 (omega (arith, h.small))))))

-- Behind the bytes s, a scan that has read w gives its words and those of s, the first of which begins with w.
abbrev Rest : List ℕ → List ℕ → Scan → Type 0
Rest s w a = settings_of (scanned_all (Some a) s) ≡ finish a.last a.count (all_settings (fields_from w s))

module _ (b : ℕ) (s w : List ℕ) (a : Scan) (h : Holds w a) (later : (w : List ℕ) (a : Scan) → Holds w a → Rest s w a) where
  rest-ended : (r : prelude.Option Scan) → ended a ≡ r → settings_of (scanned_all r s) ≡ finishes r (all_settings (fields_from [] s))
  rest-ended None e = settings_of_void s None refl
  rest-ended (Some r) e = later [] r (holds-ended w a r h e)

  rest-blank : is_blank b ≡ true → Rest (b ∷ s) w a
  rest-blank n = rw (scanned-blank a b n, fields-blank w b s n) (rest-ended (ended a) refl ∙ finish-ended w a h (fields_from [] s))

  rest_byte : is_blank b ≡ false → (x : Bool) → extends a b ≡ x → Rest (b ∷ s) w a
  rest_byte n true e =
      rw (scanned-digit a b n e, fields_byte w b s n) (later (w ++ (b ∷ [])) (extended a b) (holds-digit w a b h e))
  rest_byte n false e =
      settings_of_void s (scanned (Some a) b) (scanned-bad a b n e)
      ∙ sym (ap (finish a.last a.count) (ap all_settings (fields_byte w b s n) ∙ bad-fields (w ++ (b ∷ [])) s (bad_byte w a b h e)))

  rest_cons : (x : Bool) → is_blank b ≡ x → Rest (b ∷ s) w a
  rest_cons true n = rest-blank n
  rest_cons false n = rest_byte n (extends a b) refl

rest : (s w : List ℕ) (a : Scan) → Holds w a → Rest s w a
unfolding settings_of fields_from all_settings
rest [] w a h = finishes-end (ended a) ∙ finish-ended w a h []
rest (b ∷ s) w a h = rest_cons b s w a h (rest s) (is_blank b) refl

-- THE FILE
pub settings_of-file : (file : List ℕ) → settings_of (scan_of file) ≡ settings file
settings_of-file file = rest file [] unread (holds-none zeros 0) ∙ five-finish (all_settings (fields file))

scanned_chunks : (a : prelude.Option Scan) (chunks : List (List ℕ)) → foldl scanned_all a chunks ≡ scanned_all a (flatten chunks)
unfolding flatten
scanned_chunks a [] = refl
scanned_chunks a (s ∷ chunks) = scanned_chunks (scanned_all a s) chunks ∙ sym (foldl-append scanned a s (flatten chunks))

-- Chunk by chunk, the parameters of the joined bytes.
pub settings_of_chunks : (chunks : List (List ℕ)) → settings_of (foldl scanned_all (Some unread) chunks) ≡ settings (flatten chunks)
settings_of_chunks chunks = ap settings_of (scanned_chunks (Some unread) chunks) ∙ settings_of-file (flatten chunks)

-- THE CONTRACT
pub settings_of_meaning : {a : prelude.Option Scan} {r : Parameters} → r ≡ settings_of a → (r ≡ settings_of a) × ((file : List ℕ) → a ≡ scan_of file → r ≡ settings file)
settings_of_meaning e = (e, λ file k. e ∙ ap settings_of k ∙ settings_of-file file)
