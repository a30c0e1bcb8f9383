-- Names as numbers, so that a word is compared with each at one stroke.
use Rattle.std.specs.Prelude.{ℕ, suc, ◌+◌, ◌*◌, ◌%◌, ◌≡◌, ◌≤◌, Option, Some, None, Bool, true, false, ◌&&◌, List, [], ◌∷◌, map, eqb, length, get_or, drop}
use Rattle.model.specs.Numbers.{upper}
use Rattle.model.specs.Load.{names}

-- The bytes in capitals as digits in base 256, behind those of k.
unfoldable pub key_from : ℕ → List ℕ → ℕ
key_from k [] = k
key_from k (b ∷ s) = key_from (k * 256 + upper b) s

-- The 1 in front keeps words of different lengths apart.
abbrev pub key_of : List ℕ → ℕ
key_of w = key_from 1 w

-- The keys of the names from number 5 on.
unfoldable pub key_table : List ℕ
key_table = map key_of (drop 4 names)

-- The remainder of a key by which its place is found.
abbrev pub slot_of : ℕ → ℕ
slot_of k = k % 9284 % 119

-- The places of these keys, from i on, stand at their remainders.
unfoldable pub slotted : (i : ℕ) (slots keys : List ℕ) → Bool
slotted i slots [] = true
slotted i slots (k ∷ ks) = eqb (get_or slots (slot_of k) 0) i && slotted (suc i) slots ks

-- A table of the places of all keys.
abbrev pub Slots : List ℕ → Type 0
Slots slots = (length slots ≡ 119) × (slotted 0 slots key_table ≡ true)

-- The place of a key among keys that count from n; 0 where it is none.
unfoldable pub place_from : ℕ → ℕ → List ℕ → ℕ
place_from n k [] = 0
place_from n k (x ∷ xs) = elim (eqb x k) [ true ↦ n | false ↦ place_from (suc n) k xs ]

-- A number that is found; the definitions have 0 where there is none.
abbrev pub Finds : Option ℕ → ℕ → Type 0
Finds None n = n ≡ 0
Finds (Some x) n = (x ≡ n) × (1 ≤ n)
