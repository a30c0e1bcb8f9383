-- The forms of the instructions' arguments in one number each.
use Rattle.std.specs.Prelude.{ℕ, ◌+◌, ◌*◌, List, [], ◌∷◌, map}
use Rattle.model.specs.Instructions.{Row, rows}

-- Four bits for each form, the first argument's lowest. No form is 0.
unfoldable pub packed : List ℕ → ℕ
packed [] = 0
packed (f ∷ fs) = f + 16 * packed fs

-- For each instruction, by number from 1 on.
unfoldable pub form_table : List ℕ
form_table = map (λ (r : Row). packed r.forms) rows
