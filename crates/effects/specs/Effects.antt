-- The output slice after a step, and the lengths that words can index.
use Rattle.std.specs.Prelude.{◌^◌, ◌≤◌, List, ◌++◌, length, drop, ℤ}

-- The values that a step writes stand at the front of what it was lent; "the rest keeps its contents".
abbrev pub output_after : (values output : List ℤ) → List ℤ
output_after values output = values ++ drop (length values) output

-- A word has 30 bits for an index. Registers and data cells are far fewer.
pub record Indexed (registers cells : List ℤ) : Type 0 where
  pub register-count : length registers ≤ 2 ^ 30
  pub cell-count : length cells ≤ 2 ^ 30
