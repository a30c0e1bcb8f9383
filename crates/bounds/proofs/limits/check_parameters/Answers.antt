use Prim.Native.Nat.{◌-◌}
use mathlib.Core.Path.{◌≡◌, sym, ◌∙◌}
use mathlib.Core.Bool.{true, ◌&&◌}
use lib.Dec.{leb}
use borrow.Author.Tests.{not-false, not-true, le-leb, lt-leb}
use Rattle.model.specs.Parameters.{between, limit, parameter_checks, max_registers, max_cells}
use Rattle.bounds.proofs.limits.check_parameters.Goals as goal
use Rattle.bounds.proofs.limits.check_parameters.Goals.{Else-not-countable, Else-not-within, Else-not-within-2, Else-p}

-- The tests that passed on the way: K, N, S and B.
bits : (c : Else-not-within) → between 8 30 c.args.p.k ≡ true
bits c = sym c.within.ensures ∙ not-false _ c.if-not-within.false-raw

registers : (c : Else-not-within-2) → between 1 max_registers c.args.p.n ≡ true
registers c = sym c.within-2.ensures ∙ not-false _ c.if-not-within-2.false-raw

cells : (c : Else-not-countable) → (between 1 max_cells c.args.p.s && leb c.args.p.s (limit c.args.p.k - 1)) ≡ true
cells c = rw c.limit_of-m.ensures.value at (sym c.countable.ensures ∙ not-false _ c.if-not-countable.false-raw)

pub returns-then-not-within : goal.returns-then-not-within
unfolding parameter_checks
returns-then-not-within c = rw (sym c.within.ensures ∙ not-true _ c.if-not-within.true-raw)

pub returns-then-not-within-2 : goal.returns-then-not-within-2
unfolding parameter_checks
returns-then-not-within-2 c = rw (bits c.before.before, sym c.within-2.ensures ∙ not-true _ c.if-not-within-2.true-raw)

pub returns-then-not-countable : goal.returns-then-not-countable
unfolding parameter_checks
returns-then-not-countable c =
    let failed = rw c.limit_of-m.ensures.value at (sym c.countable.ensures ∙ not-true _ c.if-not-countable.true-raw) in
    rw (bits c.before.before.before.before.before, registers c.before.before.before, failed)

pub returns-then-p : goal.returns-then-p
unfolding parameter_checks
returns-then-p c = rw (bits c.before.before.before.before.before.before.before, registers c.before.before.before.before.before, cells c.before.before, lt-leb _ _ c.if-p.true)

stack : (c : Else-p) → leb c.args.p.b c.args.p.s ≡ true
stack c = le-leb _ _ c.if-p.false

pub returns-then-not-countable-2 : goal.returns-then-not-countable-2
unfolding parameter_checks
returns-then-not-countable-2 c =
    let failed = rw c.limit_of-m.ensures.value at (sym c.countable-2.ensures ∙ not-true _ c.if-not-countable-2.true-raw) in
    rw (bits c.before.before.before.before.before.before.before.before.before, registers c.before.before.before.before.before.before.before, cells c.before.before.before.before, stack c.before.before, failed)

pub returns : goal.returns
unfolding parameter_checks
returns c =
    let passed = rw c.limit_of-m.ensures.value at (sym c.countable-2.ensures ∙ not-false _ c.if-not-countable-2.false-raw) in
    rw (bits c.before.before.before.before.before.before.before.before.before, registers c.before.before.before.before.before.before.before, cells c.before.before.before.before, stack c.before.before, passed)
