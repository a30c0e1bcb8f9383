-- Lines as bytes at the front of a lent buffer.
use Rattle.std.specs.Prelude.{ℕ, ◌≤◌, List, ◌++◌, ◌≡◌, length, drop}

-- The room that a last line is given.
abbrev pub longest_line : ℕ
longest_line = 80

-- The most bytes of an ending's word: OUTPUT FULL.
abbrev pub longest_word : ℕ
longest_word = 11

-- A text put at the front of the bytes `out`, where there is room for it, the others untouched; r is its length.
pub record Put (out text out' : List ℕ) (r : ℕ) : Type 0 where
  pub room : length text ≤ length out
  pub end : r ≡ length text
  pub bytes : out' ≡ text ++ drop r out
