-- `value_count` meets its contract. Assumes nothing.
use mathlib.Core.Path.{sym}
use native.Mathlib.Omega.{arith}
use Rattle.model.specs.Instructions.{row_of}
use Rattle.prices.proofs.PriceLaws.{values-none}
use Rattle.prices.proofs.value_count.Goals as goal

pub returns-then-number-gt6 : goal.returns-then-number-gt6
returns-then-number-gt6 c =
    let l = c.if-number-gt6.true in
    sym (values-none c.args.p c.args.number (λ e. omega arith) (λ e. omega arith) (λ e. omega arith))

pub returns-in_default : goal.returns-in_default
returns-in_default c =
    sym (values-none c.args.p c.args.number (λ e. omega arith) (λ e. omega arith) (λ e. omega arith))
