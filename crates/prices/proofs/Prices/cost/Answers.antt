-- `cost` meets its contract. Assumes nothing.
use mathlib.Core.List.{List}
use Prim.Native.Nat.{ℕ}
use mathlib.Core.Path.{◌≡◌, ◌∙◌}
use native.Mathlib.Omega.{arith}
use lib.ListN.{get_or}
use Rattle.image.specs.Decode.{cell_from}
use Rattle.prices.specs.Prices.{price_of, price_table}
use Rattle.prices.proofs.PriceLaws.{prices-length, times-registers, times-cells, is_number, directs-priced, cost_multiplied, cost_single, cost_undirected}
use Rattle.prices.proofs.Prices.cost.Goals as goal

price : (prices : List ℕ) (at number k : ℕ) {found : ℕ} → found ≡ get_or prices at 0 → prices ≡ price_table → get_or price_table at 0 ≡ price_of number k → found ≡ price_of number k
price prices at number k f e h = f ∙ rw e h

pub bounds-self-number : goal.bounds-self-number
bounds-self-number c =
    rw (c.args.self.list_value, prices-length) (omega (arith, is_number c.args.p (cell_from c.args.i) c.requires))

pub returns-then-number-gt10 : goal.returns-then-number-gt10
returns-then-number-gt10 c =
    c.from.ensures ∙ rw c.args.self.list_value (cost_undirected c.args.p (cell_from c.args.i) c.requires c.if-number-gt10.true)

pub price_index-requires-clause-le_number : goal.price_index-requires-clause-le_number
price_index-requires-clause-le_number c =
    ((is_number c.args.p (cell_from c.args.i) c.requires).0, c.if-number-gt10.false)

pub price_index-requires-clause-i_in_bounds : goal.price_index-requires-clause-i_in_bounds
price_index-requires-clause-i_in_bounds c = directs-priced c.args.p (cell_from c.args.i) c.requires

pub bounds-self-price_index : goal.bounds-self-price_index
bounds-self-price_index c = rw (c.args.self.list_value, prices-length) c.price_index.ensures.within

pub returns-in-1 : goal.returns-in-1
returns-in-1 c =
    rw c.from-in-1.ensures
    (cost_multiplied c.args.p (cell_from c.args.i) c.requires (price _ _ _ _ c.from-price.ensures c.args.self.list_value c.price_index.ensures.result_value)
    (times-registers c.args.p c.args.i.number (omega arith) (omega arith)))

pub returns-in-2 : goal.returns-in-2
returns-in-2 c =
    rw c.from-in-2.ensures
    (cost_multiplied c.args.p (cell_from c.args.i) c.requires (price _ _ _ _ c.from-price.ensures c.args.self.list_value c.price_index.ensures.result_value)
    (times-cells c.args.p c.args.i.number (omega arith) (omega arith) (λ e. omega arith)))

pub returns-in_default : goal.returns-in_default
returns-in_default c =
    cost_single c.args.p (cell_from c.args.i) c.requires (price _ _ _ _ c.from-price.ensures c.args.self.list_value c.price_index.ensures.result_value)
    (grind (arith, is_number c.args.p (cell_from c.args.i) c.requires))
