-- The words of `tak.par` and their values, byte by byte. Assumes nothing.
use Prim.Native.Nat.{ℕ, ◌*◌, ◌+◌, ◌-◌, ◌<◌}
use mathlib.Core.Path.{◌≡◌, refl, sym, ap, ◌∙◌}
use mathlib.Core.Bool.{Bool, true, false}
use mathlib.Core.List.{List, [], ◌∷◌, ◌++◌, append-nil, append_assoc}
use mathlib.Core.Option.{Option, none, some}
use native.Mathlib.Omega.{arith}
use lib.ListN.{length}
use Rattle.model.specs.Load.{keep}
use Rattle.model.specs.Numbers.{is_blank, is_digit, digits_from, mapped}
use Rattle.model.specs.Settings.{fields_from, setting, all_settings}
use Rattle.std.proofs.lemmas.Grind.{common_steps}
use Rattle.std.proofs.Common.{rules}

-- DIGITS
-- The value of the digits t behind others, of value o.
abbrev onward : Option ℕ → List ℕ → Option ℕ
onward none t = none
onward (some v) t = digits_from v t

digits_append : (n : ℕ) (w t : List ℕ) → digits_from n (w ++ t) ≡ onward (digits_from n w) t
unfolding digits_from
digits_append n [] t = refl
digits_append n (b ∷ w) t = go (is_digit b) (digits_from (n * 10 + (b - 48)) w) (digits_append (n * 10 + (b - 48)) w t)
  where
    go : (x : Bool) (p : Option ℕ) {o : Option ℕ} → o ≡ onward p t → elim x [ true ↦ o | false ↦ none ] ≡ onward (elim x [ true ↦ p | false ↦ none ]) t
    go true p e = e
    go false p e = refl

pub digit-behind : (w : List ℕ) (v b : ℕ) → digits_from 0 w ≡ some v → is_digit b ≡ true → digits_from 0 (w ++ (b ∷ [])) ≡ some (v * 10 + (b - 48))
unfolding digits_from
digit-behind w v b e h = digits_append 0 w (b ∷ []) ∙ ap (λ (o : Option ℕ). onward o (b ∷ [])) e ∙ simp (digits_from, h)

other-behind : (w : List ℕ) (b : ℕ) (t : List ℕ) → is_digit b ≡ false → digits_from 0 (w ++ (b ∷ t)) ≡ none
unfolding digits_from
other-behind w b t h = digits_append 0 w (b ∷ t) ∙ go (digits_from 0 w)
  where
    go : (o : Option ℕ) → onward o (b ∷ t) ≡ none
    go none = refl
    go (some v) = simp (digits_from, h)

-- WORDS
-- The value of a word in front of those of others.
abbrev consed : Option ℕ → Option (List ℕ) → Option (List ℕ)
consed none o = none
consed (some v) o = mapped (λ (vs : List ℕ). v ∷ vs) o

pub settings_cons : (w : List ℕ) (ws : List (List ℕ)) (o : Option ℕ) → setting w ≡ o → all_settings (w ∷ ws) ≡ consed o (all_settings ws)
unfolding all_settings
settings_cons w ws none e = simp (all_settings, e)
settings_cons w ws (some v) e = simp (all_settings, e)

module _ (w : List ℕ) (b : ℕ) (s : List ℕ) where
  pub fields-blank : is_blank b ≡ true → fields_from w (b ∷ s) ≡ keep w (fields_from [] s)
  unfolding fields_from
  fields-blank h = simp (fields_from, h)

  pub fields_byte : is_blank b ≡ false → fields_from w (b ∷ s) ≡ fields_from (w ++ (b ∷ [])) s
  unfolding fields_from
  fields_byte h = simp (fields_from, h)

-- WORDS THAT ARE NOT 1 TO 9 DIGITS
-- However w goes on, it is no such word.
abbrev pub Bad : List ℕ → Type 0
Bad w = (t : List ℕ) → setting (w ++ t) ≡ none

pub bad-long : (w : List ℕ) → 9 < length w → Bad w
unfolding setting
bad-long w l t = grind (arith, common_steps)

setting-none : (w : List ℕ) → digits_from 0 w ≡ none → setting w ≡ none
unfolding setting
setting-none w h = search rules

pub bad_other : (w : List ℕ) (b : ℕ) → is_digit b ≡ false → Bad (w ++ (b ∷ []))
bad_other w b h t = rw append_assoc (setting-none (w ++ (b ∷ t)) (other-behind w b t h))

bad-kept : (w : List ℕ) (ws : List (List ℕ)) → Bad w → all_settings (keep w ws) ≡ none
unfolding setting digits_from
bad-kept [] ws bad =
    let e : ◌≡◌ {A = Option ℕ} (some 0) none = bad (48 ∷ []) in
    let z : ◌≡◌ {A = ℕ} 0 1 = cc in
    absurd (omega arith)
bad-kept (b ∷ w) ws bad = settings_cons (b ∷ w) ws none (ap (λ (l : List ℕ). setting (b ∷ l)) (sym (append-nil w)) ∙ bad [])

pub bad-fields : (w s : List ℕ) → Bad w → all_settings (fields_from w s) ≡ none
unfolding fields_from
bad-fields w [] bad = bad-kept w [] bad
bad-fields w (b ∷ s) bad = go (is_blank b) refl (bad-fields (w ++ (b ∷ [])) s (λ t. rw append_assoc (bad (b ∷ t))))
  where
    go : (x : Bool) → is_blank b ≡ x → all_settings (fields_from (w ++ (b ∷ [])) s) ≡ none → all_settings (fields_from w (b ∷ s)) ≡ none
    go true n e = ap all_settings (fields-blank w b s n) ∙ bad-kept w (fields_from [] s) bad
    go false n e = ap all_settings (fields_byte w b s n) ∙ e
