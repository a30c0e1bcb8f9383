-- Every step costs at least one cycle, so that the grant loop has fuel enough. Assumes nothing.
use Prim.Native.Nat.{ℕ, zero, suc, ◌≤◌}
use mathlib.Core.Path.{◌≡◌, refl}
use mathlib.Core.Bool.{Bool, true, ◌&&◌}
use mathlib.Core.List.{List, [], ◌∷◌}
use native.Mathlib.Nat.{one-le-mul}
use native.Mathlib.Omega.{arith}
use lib.Dec.{leb}
use lib.ListN.{get_or}
use borrow.Author.Tests.{leb-true}
use Rattle.model.specs.declared.Parameters.{Parameters}
use Rattle.model.specs.Parameters.{Fit}
use Rattle.model.specs.Words.{Cell}
use Rattle.model.specs.Instructions.{Multiplier, one, by_registers, by_cells, row_of, directs, times, cost_of}
use Rattle.model.specs.Machine.{Priced, stops, goes}
use Rattle.model.specs.Grants.{RunState, advance, look_from, run}
use Rattle.model.specs.Step.{Environment, State, Tak, current_cell, step_cost}
use Rattle.model.proofs.Fits.{both, Limits, limits}
use Rattle.model.proofs.Rows.{row-rule}
use Rattle.model.proofs.Loop.{run_law}

-- No price of a row is 0.
abbrev are_prices : List ℕ → Bool
are_prices [] = true
are_prices (x ∷ xs) = leb 1 x && are_prices xs

price-pos : (xs : List ℕ) (n : ℕ) → are_prices xs ≡ true → 1 ≤ get_or xs n 1
price-pos [] n h = omega arith
price-pos (x ∷ xs) zero h = leb-true 1 x (both (leb 1 x) (are_prices xs) h).0
price-pos (x ∷ xs) (suc n) h = price-pos xs n (both (leb 1 x) (are_prices xs) h).1

row_of-priced : (n : ℕ) → are_prices (row_of n).prices ≡ true
row_of-priced n = row-rule (λ r. are_prices r.prices) refl n

times-pos : (p : Parameters) → Limits p → (x : Multiplier) → 1 ≤ times p x
times-pos p l one = omega arith
times-pos p l by_registers = l.n-low
times-pos p l by_cells = l.s-low

pub cost-pos : (p : Parameters) → Fit p → (c : Cell) → 1 ≤ cost_of p c
unfolding cost_of
cost-pos p f c =
    one-le-mul (price-pos (row_of c.head).prices (directs c) (row_of-priced c.head))
    (times-pos p (limits p f) (row_of c.head).multiplier)

pub priced : (e : Environment) → Fit e.parameters → Priced (Tak e)
unfolding step_cost
priced e f s r = cost-pos e.parameters f (current_cell e s)

-- The grant loop of the TAK machine: look; stop, or step and go on.
pub tak-run : (e : Environment) → Fit e.parameters → (granted room : ℕ) (a : RunState State) →
    run (Tak e) granted room a
    ≡ elim (look_from (Tak e) granted room a) [
      | stops x ↦ record { ending = x; at = a }
      | goes ↦ run (Tak e) granted room (advance (Tak e) a)
    ]
tak-run e f granted room a = run_law (Tak e) (priced e f) granted room a
