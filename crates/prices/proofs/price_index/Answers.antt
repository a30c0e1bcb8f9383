-- `price_index` meets its contract. Assumes nothing.
use mathlib.Core.Path.{sym, ◌∙◌}
use native.Mathlib.Omega.{arith}
use Rattle.prices.proofs.PriceLaws.{price-none, price-one, price_two}
use Rattle.prices.proofs.price_index.Goals as goal

pub returns-in-0-clause-result_value : goal.returns-in-0-clause-result_value
returns-in-0-clause-result_value c =
    rw (sym c.direct_arguments.ensures ∙ c.in-0.is) (price-none c.args.i.number c.requires.le_number.0 (omega arith))

pub returns-in-1-clause-result_value : goal.returns-in-1-clause-result_value
returns-in-1-clause-result_value c =
    let one = sym c.direct_arguments.ensures ∙ c.in-1.is in
    rw one (price-one c.args.i.number c.requires.le_number.0 c.requires.le_number.1 (rw one at c.requires.i_in_bounds))

pub returns-in_default-clause-result_value : goal.returns-in_default-clause-result_value
returns-in_default-clause-result_value c =
    price_two c.args.i.number _ c.requires.le_number.0 c.requires.le_number.1 c.requires.i_in_bounds (omega (arith, c.direct_arguments.ensures))
