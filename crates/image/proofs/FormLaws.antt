-- The table of forms, read at an instruction's number. Assumes nothing.
use Prim.Native.Nat.{ℕ, zero, suc, ◌-◌}
use mathlib.Core.Path.{◌≡◌, refl}
use native.Mathlib.Omega.{arith}
use lib.ListN.{length, get_or, get_or-map}
use Rattle.model.specs.Instructions.{Row, rows, instruction_count, row_of}
use Rattle.image.specs.Forms.{packed, form_table}

pub table-length : length form_table ≡ instruction_count
unfolding form_table
table-length = refl

pub table-entry : (n : ℕ) → get_or form_table (n - 1) 0 ≡ packed (row_of n).forms
unfolding form_table packed row_of
table-entry zero = refl
table-entry (suc n) =
    let e : suc n - 1 ≡ n = omega arith in
    rw e (get_or-map (λ (r : Row). packed r.forms) rows n (row_of 0))
