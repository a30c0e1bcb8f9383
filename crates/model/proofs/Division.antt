-- REQUEST E3: what DIVR makes of two numbers, and where a step of it leaves them. Assumes nothing.
use Prim.Native.Nat.{ℕ, zero, suc, ◌+◌, ◌%◌, ◌≤◌, ◌<◌}
use mathlib.Core.Bool.{Bool, true, false, cond, true≢false}
use mathlib.Core.Path.{◌≡◌, refl, sym, ap, ◌∙◌}
use native.Mathlib.Omega.{arith}
use mathlib.Core.List.{List, [], ◌∷◌}
use lib.IntN.{ℤ, pos, negsuc, nat_abs, neg_ℤ, ◌+ℤ◌, ◌*ℤ◌}
use lib.ListN.{get_or, set, length, length-set}
use lib.Signed.{quot_z, rem_z, non_neg}
use borrow.Author.Tests.{eq-eqb, ne_eqb}
use Rattle.model.specs.Arithmetic.{Answer, value, code, checked, divide, remainder, Divided}
use Rattle.model.specs.Images.{word_fits, words_fit, cell_fits}
use Rattle.model.specs.Instructions.{divr_number, row_of}
use Rattle.model.specs.Load.{allows, is_within, one_target}
use Rattle.model.specs.Parameters.{limit, in_range, eq_z}
use Rattle.model.specs.Step.{Environment, State, with_iar, with_registers, register_value, value_of, store, succeeds, fails, stores_both, execute}
use Rattle.model.specs.Words.{Cell, kind_of, register_kind, content_of}
use Rattle.model.specs.declared.Parameters.{Parameters}
use Rattle.model.proofs.Cells.{fits-words, fits-targets}
use Rattle.model.proofs.Fits.{both, Limits}
use Rattle.std.proofs.Common.{rules}
use Rattle.std.proofs.lemmas.Int.{quot-rem, rem_below}
use Rattle.std.proofs.lemmas.List.{get_or-set_same, get_or-set_other}

rem-sign : (x y : ℤ) → ¬ (rem_z x y ≡ pos 0) → non_neg (rem_z x y) ≡ non_neg x
rem-sign (pos a) y h = refl
rem-sign (negsuc a) y h = go (suc a % nat_abs y) h
  where
    go : (n : ℕ) → ¬ (neg_ℤ (pos n) ≡ pos 0) → non_neg (neg_ℤ (pos n)) ≡ false
    go zero h = absurd (h refl)
    go (suc n) h = refl

not-zero : (y : ℤ) → eq_z y (pos 0) ≡ false → 0 < nat_abs y
not-zero (pos zero) h = absurd (let z : ◌≡◌ {A = ℕ} 0 1 = cc in omega arith)
not-zero (pos (suc n)) h = omega arith
not-zero (negsuc n) h = omega arith

-- Of a division with code 0.
pub parts_of : (m : ℕ) (x y q : ℤ) → divide m x y ≡ value q → Divided x y q (rem_z x y)
unfolding divide checked
parts_of m x y q h = go (eq_z y (pos 0)) (in_range m (quot_z x y)) refl h
  where
    go : (a b : Bool) → eq_z y (pos 0) ≡ a → cond a (code 2) (cond b (value (quot_z x y)) (code 1)) ≡ value q → Divided x y q (rem_z x y)
    go true b e h = cc
    go false false e h = cc
    go false true e h =
        let is : quot_z x y ≡ q = cc in
        record { whole = ap (λ (z : ℤ). z *ℤ y +ℤ rem_z x y) (sym is) ∙ quot-rem x y; smaller = rem_below x y (not-zero y e); sign = rem-sign x y }

-- A remainder that fails, and one that does not.
pub remainder_code : (m : ℕ) (x y : ℤ) (k : ℕ) → code k ≡ remainder x y → code k ≡ divide m x y
unfolding remainder divide
remainder_code m x y k h = go (eq_z y (pos 0)) h
  where
    go : (b : Bool) → code k ≡ cond b (code 2) (value (rem_z x y)) → code k ≡ cond b (code 2) (checked m (quot_z x y))
    go true h = h
    go false h = cc

pub remainder_value : (x y z : ℤ) → value z ≡ remainder x y → z ≡ rem_z x y
unfolding remainder
remainder_value x y z h = go (eq_z y (pos 0)) h
  where
    go : (b : Bool) → value z ≡ cond b (code 2) (value (rem_z x y)) → z ≡ rem_z x y
    go true h = cc
    go false h = cc

-- A STEP OF DIVR
same-state : (s t : State) → succeeds s ≡ succeeds t → s ≡ t
same-state s t h = cc

no-state : (k : ℕ) (s : State) → fails k ≡ succeeds s → {A : Type 0} → A
no-state k s h = absurd (let z : ◌≡◌ {A = ℕ} 0 1 = cc in omega arith)

-- A word at a place for a register that is written.
record Target (p : Parameters) (w : ℕ) : Type 0 where
  kind : kind_of w ≡ register_kind
  below : content_of w < p.n

target-word : (p : Parameters) (w : ℕ) → word_fits p 1 w ≡ true → Target p w
unfolding word_fits allows is_within
target-word p w h = search rules

-- Such a word read, and written.
module _ (p : Parameters) (few : p.n ≤ 256) (w : ℕ) (t : Target p w) where
  target-value : (s : State) → value_of s w ≡ get_or s.registers (content_of w) (pos 0)
  unfolding value_of register_value
  target-value s =
      rw (
        t.kind,
        ne_eqb (content_of w) 256 (λ e. omega (arith, t.below, few, e)),
        ne_eqb (content_of w) 257 (λ e. omega (arith, t.below, few, e)),
        ne_eqb (content_of w) 258 (λ e. omega (arith, t.below, few, e)),
      )

  target-store : (s : State) (v : ℤ) → store w v s ≡ with_registers (set s.registers (content_of w) v) s
  unfolding store
  target-store s v = rw t.kind

-- What its targets hold after a DIVR with code 0, in a cell that a text can yield.
module _ (e : Environment) (l : Limits e.parameters) (c : Cell) (divr : c.head ≡ divr_number) (fits : cell_fits e.parameters c ≡ true)
    (s : State) (count : length s.registers ≡ e.parameters.n) where
  abbrev p : Parameters
  p = e.parameters

  words : words_fit p (1 ∷ 3 ∷ 1 ∷ []) (c.first ∷ c.second ∷ c.third ∷ []) ≡ true
  unfolding row_of
  words =
      sym (ap (λ (n : ℕ). words_fit p (row_of n).forms (c.first ∷ c.second ∷ c.third ∷ [])) divr) ∙ fits-words p c fits

  first-target : Target p c.first
  unfolding words_fit
  first-target = target-word p c.first (both (word_fits p 1 c.first) _ words).0

  third-target : Target p c.third
  unfolding words_fit
  third-target =
      let behind = (both (word_fits p 1 c.first) _ words).1 in
      target-word p c.third (both (word_fits p 1 c.third) _ (both (word_fits p 3 c.second) _ behind).1).0

  apart : ¬ (content_of c.third ≡ content_of c.first)
  apart q =
      let same : c.first ≡ c.third = omega (arith, first-target.kind, third-target.kind, q) in
      let one : one_target c ≡ true = rw (eq-eqb c.head divr_number divr, eq-eqb c.first c.third same) in
      true≢false (sym one ∙ fits-targets p c fits)

  -- The registers after both values are written, where its two targets are read.
  module _ (q r : ℤ) where
    abbrev stored : State
    stored = store c.first r (store c.third q s)

    abbrev after : State
    after = with_iar (stored.iar + 1) stored

    both-written : after.registers ≡ set (set s.registers (content_of c.third) q) (content_of c.first) r
    both-written =
        ap (λ (t : State). t.registers) (target-store p l.n-high c.first first-target (store c.third q s) r)
        ∙ ap (λ (t : State). set t.registers (content_of c.first) r) (target-store p l.n-high c.third third-target s q)

    third-read : value_of after c.third ≡ q
    third-read =
        target-value p l.n-high c.third third-target after
        ∙ ap (λ (rs : List ℤ). get_or rs (content_of c.third) (pos 0)) both-written
        ∙ get_or-set_other (set s.registers (content_of c.third) q) (content_of c.first) (content_of c.third) r (pos 0) apart
        ∙ get_or-set_same s.registers (content_of c.third) q (pos 0) (rw count third-target.below)

    first-read : value_of after c.first ≡ r
    first-read =
        target-value p l.n-high c.first first-target after
        ∙ ap (λ (rs : List ℤ). get_or rs (content_of c.first) (pos 0)) both-written
        ∙ get_or-set_same (set s.registers (content_of c.third) q) (content_of c.first) r (pos 0) (rw (length-set, count) first-target.below)

  pub divr-parts : (s' : State) → execute e (row_of c.head).operation c s ≡ succeeds s' →
      Divided (value_of s c.first) (value_of s c.second) (value_of s' c.third) (value_of s' c.first)
  unfolding execute row_of
  divr-parts s' h = go (divide m x y) refl (sym (ap (λ (n : ℕ). execute e (row_of n).operation c s) divr) ∙ h)
    where
      m : ℕ
      m = limit p.k

      x : ℤ
      x = value_of s c.first

      y : ℤ
      y = value_of s c.second

      go : (a : Answer) → divide m x y ≡ a → stores_both c.third c.first s a (rem_z x y) ≡ succeeds s' →
          Divided x y (value_of s' c.third) (value_of s' c.first)
      go (value q) d k =
          let is = same-state (after q (rem_z x y)) s' k in
          rw (← is, third-read q (rem_z x y), first-read q (rem_z x y)) (parts_of m x y q d)
      go (code n) d k = no-state n s' k
