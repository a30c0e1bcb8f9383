-- The table of prices, read at an instruction's number, and what an instruction that fits costs and writes. Assumes nothing.
use Prim.Native.Nat.{ℕ, zero, suc, ◌+◌, ◌*◌, ◌-◌, ◌/◌, ◌%◌, ◌≤◌, ◌<◌}
use mathlib.Core.Path.{◌≡◌, refl, sym, ap, ◌∙◌}
use mathlib.Core.Bool.{Bool, true, ◌&&◌, ◌||◌}
use mathlib.Core.List.{List, [], ◌∷◌}
use native.Mathlib.Decide.{dec_lt}
use native.Mathlib.Nat.{mul-one}
use native.Mathlib.Omega.{arith}
use lib.Dec.{eqb, leb}
use lib.ListN.{length, get_or, get_or-eq_default}
use borrow.Author.Tests.{eqb-true, ne_eqb, lt-leb}
use Rattle.model.specs.declared.Parameters.{Parameters}
use Rattle.model.specs.Words.{Cell, kind_of, direct_kind}
use Rattle.model.specs.Instructions.{Operation, clear_registers, clear_cells, dump_registers, dump_cells, inputs, outputs, pushes, pops, skips, idles, writes, writes_both, jumps, jumps_on, Row, rows, row_of, directs, times, cost_of, is_direct, instruction_count}
use Rattle.model.specs.Load.{allows}
use Rattle.model.specs.Images.{word_fits, words_fit, cell_fits}
use Rattle.model.specs.Step.{State, written_by}
use Rattle.model.proofs.Cells.{fits-number, fits-words}
use Rattle.model.proofs.Fits.{both, by_cond}
use Rattle.prices.specs.Prices.{price_table, price_count, price_of, value_count}
use Rattle.image.proofs.FitLaws.{direct_word}
use Rattle.image.proofs.RowLaws.{at-number}

-- THE TABLE
pub prices-length : length price_table ≡ price_count
unfolding price_table
prices-length = refl

-- No direct argument.
pub price-none : (n : ℕ) → 1 ≤ n → n ≤ instruction_count → get_or price_table (n - 1) 0 ≡ price_of n 0
unfolding price_table row_of
price-none n l h = eqb-true _ _ (at-number (λ (k : ℕ). eqb (get_or price_table (k - 1) 0) (price_of k 0)) 1 instruction_count n refl l (omega arith))

-- One, or two, where the row has such a price.
abbrev for_one : ℕ → Bool
for_one n = leb (length (row_of n).prices) 1 || eqb (get_or price_table (n + 50) 0) (price_of n 1)

pub price-one : (n : ℕ) → 1 ≤ n → n ≤ 10 → 1 < length (row_of n).prices → get_or price_table (n + 50) 0 ≡ price_of n 1
unfolding price_table row_of
price-one n l h less = eqb-true _ _ (rw (lt-leb (length (row_of n).prices) 1 less) at (at-number for_one 1 10 n refl l (omega arith)))

abbrev for_two : ℕ → Bool
for_two n = leb (length (row_of n).prices) 2 || (eqb (length (row_of n).prices) 3 && eqb (get_or price_table 61 0) (price_of n 2))

pub price_two : (n d : ℕ) → 1 ≤ n → n ≤ 10 → d < length (row_of n).prices → 2 ≤ d → get_or price_table 61 0 ≡ price_of n d
unfolding price_table row_of
price_two n d l h less two =
    let t = rw (lt-leb (length (row_of n).prices) 2 (omega arith)) at (at-number for_two 1 10 n refl l (omega arith)) in
    let k = both (eqb (length (row_of n).prices) 3) (eqb (get_or price_table 61 0) (price_of n 2)) t in
    let e : d ≡ 2 = omega (arith, eqb-true (length (row_of n).prices) 3 k.0) in
    rw e (eqb-true _ _ k.1)

-- Prices that are not multiplied, and those that are, by N or by S.
times-one : (p : Parameters) (n : ℕ) → 5 ≤ n → n ≤ instruction_count → times p (row_of n).multiplier ≡ 1
unfolding row_of
times-one p n l h = eqb-true _ _ (at-number (λ (k : ℕ). eqb (times p (row_of k).multiplier) 1) 5 51 n refl l (omega arith))

pub times-registers : (p : Parameters) (n : ℕ) → n ≤ 4 → n % 2 ≡ 1 → times p (row_of n).multiplier ≡ p.n
unfolding row_of
times-registers p zero l h = absurd (omega arith)
times-registers p (suc zero) l h = refl
times-registers p (suc (suc zero)) l h = absurd (omega arith)
times-registers p (suc (suc (suc zero))) l h = refl
times-registers p (suc (suc (suc (suc n)))) l h = absurd (omega arith)

pub times-cells : (p : Parameters) (n : ℕ) → 1 ≤ n → n ≤ 4 → ¬ (n % 2 ≡ 1) → times p (row_of n).multiplier ≡ p.s
unfolding row_of
times-cells p zero k l h = absurd (omega arith)
times-cells p (suc zero) k l h = absurd (h refl)
times-cells p (suc (suc zero)) k l h = refl
times-cells p (suc (suc (suc zero))) k l h = absurd (h refl)
times-cells p (suc (suc (suc (suc zero)))) k l h = refl
times-cells p (suc (suc (suc (suc (suc n))))) k l h = absurd (omega arith)

-- DIRECT ARGUMENTS. No more of them than places that allow one, and a price for each count.
abbrev direct_words : List ℕ → ℕ
direct_words [] = 0
direct_words (w ∷ ws) = is_direct w + direct_words ws

abbrev direct_forms : List ℕ → ℕ
direct_forms [] = 0
direct_forms (f ∷ fs) = f / 4 % 2 + direct_forms fs

direct_allowed : (p : Parameters) (f w : ℕ) → word_fits p f w ≡ true → is_direct w ≤ f / 4 % 2
unfolding allows
direct_allowed p f w h =
    by_cond (λ (x : ℕ). x ≤ f / 4 % 2) (eqb (kind_of w) direct_kind) 1 0
    (λ e. omega (arith, eqb-true (f / 4 % 2) 1 (both (eqb (f / 4 % 2) 1) _ (sym (direct_word p f w (eqb-true (kind_of w) direct_kind e)) ∙ h)).0))
    (λ e. omega arith)

directs_allowed : (p : Parameters) (fs ws : List ℕ) → words_fit p fs ws ≡ true → direct_words ws ≤ direct_forms fs
unfolding words_fit
directs_allowed p [] [] h = omega arith
directs_allowed p [] (w ∷ ws) h =
    let k = both (eqb w 0) (words_fit p [] ws) h in
    let e = eqb-true w 0 k.0 in
    rw e (omega (arith, directs_allowed p [] ws k.1))
directs_allowed p (f ∷ fs) [] h = omega arith
directs_allowed p (f ∷ fs) (w ∷ ws) h =
    let k = both (word_fits p f w) (words_fit p fs ws) h in
    omega (arith, direct_allowed p f w k.0, directs_allowed p fs ws k.1)

price-count : (n : ℕ) → 1 ≤ n → n ≤ instruction_count → length (row_of n).prices ≡ suc (direct_forms (row_of n).forms)
unfolding row_of
price-count n l h =
    eqb-true _ _ (at-number (λ (k : ℕ). eqb (length (row_of k).prices) (suc (direct_forms (row_of k).forms))) 1 instruction_count n refl l (omega arith))

one_price : (n : ℕ) → 11 ≤ n → n ≤ instruction_count → length (row_of n).prices ≡ 1
unfolding row_of
one_price n l h = eqb-true _ _ (at-number (λ (k : ℕ). eqb (length (row_of k).prices) 1) 11 45 n refl l (omega arith))

-- THE COST of a cell that fits.
module _ (p : Parameters) (c : Cell) (fits : cell_fits p c ≡ true) where
  pub is_number : (1 ≤ c.head) × (c.head ≤ instruction_count)
  is_number = fits-number p c fits

  pub directs-priced : directs c < length (row_of c.head).prices
  unfolding directs
  directs-priced =
      let ws = c.first ∷ c.second ∷ c.third ∷ [] in
      omega (arith, directs_allowed p (row_of c.head).forms ws (fits-words p c fits), price-count c.head is_number.0 is_number.1)

  module _ {price : ℕ} (e : price ≡ price_of c.head (directs c)) where
    pub cost_multiplied : {t : ℕ} → times p (row_of c.head).multiplier ≡ t → price * t ≡ cost_of p c
    unfolding cost_of
    cost_multiplied h = rw (e, h)

    pub cost_single : 5 ≤ c.head → price ≡ cost_of p c
    cost_single l = sym (mul-one price) ∙ cost_multiplied (times-one p c.head l is_number.1)

  -- Beyond the first ten there is one price.
  pub cost_undirected : 11 ≤ c.head → get_or price_table (c.head - 1) 0 ≡ cost_of p c
  cost_undirected l =
      let e : directs c ≡ 0 = omega (arith, one_price c.head l is_number.1, directs-priced) in
      cost_single (rw e (price-none c.head is_number.0 is_number.1)) (omega arith)

-- VALUES
pub values-none : (p : Parameters) (n : ℕ) → ¬ (n ≡ 3) → ¬ (n ≡ 4) → ¬ (n ≡ 6) → value_count p (row_of n).operation ≡ 0
unfolding row_of
values-none p n a b d = go (dec_lt instruction_count n)
  where
    test : ℕ → Bool
    test k = eqb k 3 || (eqb k 4 || (eqb k 6 || eqb (value_count p (row_of k).operation) 0))

    over : (k : ℕ) → instruction_count < k → value_count p (row_of k).operation ≡ 0
    over zero l = absurd (omega arith)
    over (suc k) l = ap (λ (r : Row). value_count p r.operation) (get_or-eq_default rows _ {n = k} (omega arith))

    go : Dec (instruction_count < n) → value_count p (row_of n).operation ≡ 0
    go (yes l) = over n l
    go (no l) = eqb-true _ _ (rw (ne_eqb n 3 a, ne_eqb n 4 b, ne_eqb n 6 d) at (at-number test 0 56 n refl (omega arith) (omega arith)))

-- The values that a step writes are as many.
pub written_count : (p : Parameters) (o : Operation) (c : Cell) (s : State) → length s.registers ≡ p.n → length s.cells ≡ p.s →
    length (written_by o c s) ≡ value_count p o
written_count p clear_registers c s n k = refl
written_count p clear_cells c s n k = refl
written_count p dump_registers c s n k = n
written_count p dump_cells c s n k = k
written_count p inputs c s n k = refl
written_count p outputs c s n k = refl
written_count p pushes c s n k = refl
written_count p pops c s n k = refl
written_count p skips c s n k = refl
written_count p idles c s n k = refl
written_count p (writes to f) c s n k = refl
written_count p (writes_both f g) c s n k = refl
written_count p (jumps test) c s n k = refl
written_count p (jumps_on b) c s n k = refl
