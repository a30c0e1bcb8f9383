-- The prices in one list, and how many values an instruction writes.
use Rattle.std.specs.Prelude.{ℕ, List, map, ◌++◌, get_or, take, drop}
use Rattle.model.specs.declared.Parameters.{Parameters}
use Rattle.model.specs.Instructions.{Operation, clear_registers, clear_cells, dump_registers, dump_cells, inputs, outputs, pushes, pops, skips, idles, writes, writes_both, jumps, jumps_on, Row, rows, row_of}

-- The prices of some rows for this many direct arguments.
abbrev pub prices_for : ℕ → List Row → List ℕ
prices_for mode rs = map (λ (r : Row). get_or r.prices mode 1) rs

-- Those for no direct argument by number from 1 on; for one, of IN, OUT, MOV, SET, PUSH and POP; for two, of MOV.
unfoldable pub price_table : List ℕ
price_table = prices_for 0 rows ++ (prices_for 1 (take 6 (drop 4 rows)) ++ prices_for 2 (take 1 (drop 6 rows)))

-- How many there are.
abbrev pub price_count : ℕ
price_count = 62

-- An instruction's price for this many direct arguments, as in `cost_of` of model.
abbrev pub price_of : (number mode : ℕ) → ℕ
price_of n mode = get_or (row_of n).prices mode 1

-- "OUT writes 1 value, the dumps N and S, others 0."
abbrev pub value_count : Parameters → Operation → ℕ
value_count p clear_registers = 0
value_count p clear_cells = 0
value_count p dump_registers = p.n
value_count p dump_cells = p.s
value_count p inputs = 0
value_count p outputs = 1
value_count p pushes = 0
value_count p pops = 0
value_count p skips = 0
value_count p idles = 0
value_count p (writes to f) = 0
value_count p (writes_both f g) = 0
value_count p (jumps test) = 0
value_count p (jumps_on b) = 0
