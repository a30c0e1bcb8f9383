-- Document 01, "Parameters and memory": the parameters, their limits, and the values of a cell.
use Rattle.std.specs.Prelude.{ℕ, ◌-◌, ◌^◌, ◌≡◌, Bool, true, false, ◌&&◌, ◌||◌, cond, List, [], ◌∷◌, eqb, leb, ℤ, pos, negsuc, neg_ℤ}
use Rattle.std.specs.Int.Signed.{le_z, lt_z}
use Rattle.model.specs.declared.Parameters.{Parameters}

-- A check of a call: the refusal's number, and whether the arguments are fit.
pub record Check : Type 0 where
  pub number : ℕ
  pub fit : Bool

-- Number n is given unless the arguments are fit: "A refusal is given only under its condition here".
infix 68 ◌unless◌
abbrev pub ◌unless◌ : ℕ → Bool → Check
n unless fit = record { number = n; fit = fit }

-- "the checks run in the order listed": the number of the first that fails, or 0.
abbrev pub refusal_of : List Check → ℕ
refusal_of [] = 0
refusal_of (c ∷ cs) = cond c.fit (refusal_of cs) c.number

-- Every test of a list passes.
abbrev pub all_pass : List Bool → Bool
all_pass [] = true
all_pass (b ∷ bs) = b && all_pass bs

-- x is low..high, both included.
abbrev pub between : (low high x : ℕ) → Bool
between low high x = leb low x && leb x high

-- Document 01's M, "M means 2^(K-1)".
abbrev pub limit : ℕ → ℕ
limit k = 2 ^ (k - 1)

-- "N .. 1..256, S .. 1..4,096, .. T .. 1..4,096"
abbrev pub max_registers : ℕ
max_registers = 256

abbrev pub max_cells : ℕ
max_cells = 4096

abbrev pub max_instructions : ℕ
max_instructions = 4096

-- "text over 65,536 bytes", "input over 65,536 bytes"
abbrev pub max_text : ℕ
max_text = 65536

abbrev pub max_input : ℕ
max_input = 65536

-- "a grant over 10^9", "granted over 10^15"
abbrev pub max_grant : ℕ
max_grant = 1_000_000_000

abbrev pub max_granted : ℕ
max_granted = 1_000_000_000_000_000

-- "K .. is 8..30, N .. 1..256, S .. 1..4,096, B .. 0..S, T .. 1..4,096. S and T are each at most 2^(K-1) - 1": 1 to 5, "in that order".
unfoldable pub parameter_checks : Parameters → List Check
parameter_checks p =
    1 unless (between 8 30 p.k)
    ∷ 2 unless (between 1 max_registers p.n)
    ∷ 3 unless (between 1 max_cells p.s && leb p.s (limit p.k - 1))
    ∷ 4 unless (leb p.b p.s)
    ∷ 5 unless (between 1 max_instructions p.t && leb p.t (limit p.k - 1))
    ∷ []

-- The parameters are within their limits.
abbrev pub Fit : Parameters → Type 0
Fit p = refusal_of (parameter_checks p) ≡ 0

-- "values are -M..M-1".
abbrev pub in_range : (m : ℕ) → ℤ → Bool
in_range m z = le_z (neg_ℤ (pos m)) z && lt_z z (pos m)

-- Two numbers are equal.
abbrev pub eq_z : ℤ → ℤ → Bool
eq_z (pos a) (pos b) = eqb a b
eq_z (pos a) (negsuc b) = false
eq_z (negsuc a) (pos b) = false
eq_z (negsuc a) (negsuc b) = eqb a b

-- "Truth is -1, falsehood 0; no other value is Boolean."
abbrev pub boolean_of : Bool → ℤ
boolean_of true = negsuc 0
boolean_of false = pos 0

-- A Boolean value is truth.
abbrev pub is_true : ℤ → Bool
is_true z = eq_z z (boolean_of true)

-- "no other value is Boolean"
abbrev pub is_boolean : ℤ → Bool
is_boolean z = eq_z z (boolean_of true) || eq_z z (boolean_of false)
