-- Document 01's refusal 10, of a call's number.
use Rattle.std.specs.Prelude.{ℕ, List, ◌↔◌, ◌≡◌}
use Rattle.model.specs.Calls.{size_checks}
use Rattle.model.specs.Images.{Yields, NoTextYields}
use Rattle.model.specs.Parameters.{refusal_of}
use Rattle.model.specs.Step.{Environment, Memory}

module _ (e : Environment) (m : Memory) where
  -- "1..6; 9" pass.
  abbrev pub SizesPass : Type 0
  SizesPass = refusal_of (size_checks e m) ≡ 0

  -- The number is 10 exactly where they pass and the image is one "that no text yields under the loading rules, refusal 7 disregarded".
  pub record Refusal10 (number : ℕ) : Type 0 where
    pub given : (number ≡ 10) ↔ (SizesPass × NoTextYields e.parameters e.image)
    -- Where they pass and it is not 10, some text yields the image.
    pub otherwise : SizesPass → ¬ (number ≡ 10) → (text : List ℕ) × Yields e.parameters text e.image
