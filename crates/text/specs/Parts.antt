-- A part of a text.
use Rattle.std.specs.Prelude.{ℕ, ◌-◌, List, take, drop}

-- The part that is lent as `&t[a..b]`.
abbrev pub part : (a b : ℕ) → List ℕ → List ℕ
part a b t = take (b - a) (drop a t)
