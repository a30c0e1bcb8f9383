-- Parts of the checks of start and grant.
use Rattle.std.specs.Prelude.{ℕ, ◌+◌, Bool, ◌&&◌, [], leb, ℤ, pos, ◌-ℤ◌}
use Rattle.std.specs.Int.Signed.{le_z}
use Rattle.model.specs.Calls.{as_held, account_of, record_tests}
use Rattle.model.specs.Parameters.{all_pass, max_grant, max_granted}
use Rattle.model.specs.declared.Record.{Record}

-- SHR is B-1..S-1.
abbrev pub head_fits : (b s : ℕ) → ℤ → Bool
head_fits b s shr = le_z (pos b -ℤ pos 1) shr && le_z shr (pos s -ℤ pos 1)

-- The deepest SHR is SHR..S-1.
abbrev pub deepest_fits : (s : ℕ) → (shr deepest : ℤ) → Bool
deepest_fits s shr deepest = le_z shr deepest && le_z deepest (pos s -ℤ pos 1)

-- The tests of where a record stands, and those of its cycles.
abbrev pub core_fits : Record → Bool
core_fits r = leb r.iar r.parameters.t && (leb r.ircr 3 && head_fits r.parameters.b r.parameters.s r.shr)

abbrev pub account_fits : Record → Bool
account_fits r = leb r.spent r.granted && leb r.granted max_granted

-- The tests of how far it has come in the input and on the stack.
abbrev pub reached_fits : Record → (input : ℕ) → Bool
reached_fits r input = leb r.place input && deepest_fits r.parameters.s r.shr r.deepest

-- A record passes its tests, with an input of this length. They do not look at the memory.
abbrev pub fields_fit : Record → (input : ℕ) → Bool
fields_fit r input = all_pass (record_tests r.parameters input (account_of (as_held r [] [])))

-- What `grant_checks` of model asks of a grant's cycles.
abbrev pub cycles_fit : (granted cycles : ℕ) → Bool
cycles_fit granted cycles = leb cycles max_grant && leb (granted + cycles) max_granted
