-- What looking for a byte answers.
use Rattle.std.specs.Prelude.{ℕ, ◌+◌, ◌≡◌, Bool, List, drop}
use Rattle.std.specs.List.{position_or_len}

-- r is the first place whose byte passes the test, or the end of t, where what the calls of a closure answer is the test.
abbrev pub FindsFirst : (answers : ℕ → Bool → Type 0) (t : List ℕ) (r : ℕ) → Type 0
FindsFirst answers t r = (test : ℕ → Bool) → ((b : ℕ) (x : Bool) → answers b x → x ≡ test b) → r ≡ position_or_len test t

-- The first place from p on whose byte passes the test, or the end of t.
abbrev pub first_from : (test : ℕ → Bool) (t : List ℕ) (p : ℕ) → ℕ
first_from test t p = p + position_or_len test (drop p t)

-- r is that place.
abbrev pub FindsFrom : (answers : ℕ → Bool → Type 0) (t : List ℕ) (p r : ℕ) → Type 0
FindsFrom answers t p r = (test : ℕ → Bool) → ((b : ℕ) (x : Bool) → answers b x → x ≡ test b) → r ≡ first_from test t p
