-- What the contracts of `bounds` say beside the definitions of `model`.
use Rattle.std.specs.Prelude.{ℕ, ◌≤◌, ◌<◌, ◌≡◌, ℤ}
use Rattle.std.specs.Int.Signed.{mag}
use Rattle.model.specs.Parameters.{limit}

-- m is document 01's M for a K within its limits.
pub record IsLimit (m : ℕ) : Type 0 where
  pub k : ℕ
  pub low : 8 ≤ k
  pub high : k ≤ 30
  pub is : m ≡ limit k

-- z is in -M..M-1: the library's `mag` is n both for n and for -(n + 1). It is `in_range`, by `range-mag` and `mag-range` of model.
abbrev pub Within : (m : ℕ) → ℤ → Type 0
Within m z = mag z < m
