-- The test of a record and its memory, refusal 15. Assumes nothing.
use Prim.Native.Nat.{ℕ}
use mathlib.Core.Bool.{Bool, true, false, ◌&&◌, and-true}
use mathlib.Core.List.{List, [], ◌∷◌}
use Rattle.std.specs.List.{fold}
use mathlib.Core.Path.{◌≡◌, refl, sym, ◌∙◌}
use lib.IntN.{ℤ}
use lib.ListN.{length}
use Rattle.model.proofs.Fits.{pass_append}
use Rattle.model.specs.Calls.{Held, all_in_range, record_tests, memory_tests, record_fits, account_of}
use Rattle.model.specs.Parameters.{limit, in_range}
use Rattle.model.specs.Step.{environment_of}
use Rattle.model.specs.declared.Parameters.{Parameters}
use Rattle.machine.specs.Checks.{fields_fit}

-- VALUES, each tested whatever the others are.
pub fold-range : (m : ℕ) (zs : List ℤ) (a : Bool) → fold (λ (x : Bool) (z : ℤ). x && in_range m z) a zs ≡ (a && all_in_range m zs)
fold-range m [] true = refl
fold-range m [] false = refl
fold-range m (z ∷ zs) true = fold-range m zs (in_range m z)
fold-range m (z ∷ zs) false = fold-range m zs false

-- THE RECORD: its numbers, the registers and the data cells.
module _ (image input : List ℕ) (held : Held) where
  abbrev p : Parameters
  p = held.rec.parameters

  abbrev k : ℕ
  k = p.k

  abbrev fits : Bool
  fits = record_fits (environment_of p image input) (account_of held)

  abbrev numbers : Bool
  numbers = fields_fit held.rec (length input)

  parts : fits ≡ (numbers && (all_in_range (limit k) held.memory.registers && (all_in_range (limit k) held.memory.cells && true)))
  unfolding record_fits
  parts = pass_append (record_tests p (length input) (account_of held)) (memory_tests p held.memory)

  pub by-numbers : numbers ≡ false → false ≡ fits
  by-numbers h = sym (parts ∙ rw h)

  pub by-memory : numbers ≡ true → (m : ℕ) → m ≡ limit k → (all_in_range m held.memory.registers && all_in_range m held.memory.cells) ≡ fits
  by-memory passed m is = sym (parts ∙ rw (passed, sym is, and-true))
