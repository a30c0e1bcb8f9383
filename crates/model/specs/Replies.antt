-- What the code's calls answer, in document 01's numbers and values: a definition states them for each case of an answer.
use Rattle.std.specs.Prelude.{ℕ, Result, Ok, Err}
use Rattle.model.specs.declared.AcceptedGrant.{AcceptedGrant}
use Rattle.model.specs.declared.LoadError.{LoadError}
use Rattle.model.specs.declared.Record.{Record}
use Rattle.model.specs.declared.Refusal.{Refusal}
use Rattle.model.specs.declared.Refusal.TheVariants as refusal
use Rattle.model.specs.Load.{LoadReply, Accepted, Refused}
use Rattle.model.specs.Grants as outcome
use Rattle.model.specs.Calls.{zero_record, StartReply, GrantReply, DecimalReply}

-- The numbers of the refusals.
abbrev pub refusal_number_of : Refusal → ℕ
refusal_number_of refusal.ParameterK = 1
refusal_number_of refusal.ParameterN = 2
refusal_number_of refusal.ParameterS = 3
refusal_number_of refusal.ParameterB = 4
refusal_number_of refusal.ParameterT = 5
refusal_number_of refusal.ImageLength = 6
refusal_number_of refusal.TextLength = 7
refusal_number_of refusal.LineCount = 8
refusal_number_of refusal.MemoryLength = 9
refusal_number_of refusal.Image = 10
refusal_number_of refusal.Instruction = 11
refusal_number_of refusal.ArgumentCount = 12
refusal_number_of refusal.ArgumentForm = 13
refusal_number_of refusal.ArgumentRange = 14
refusal_number_of refusal.Record = 15
refusal_number_of refusal.InputLength = 16
refusal_number_of refusal.Cycles = 17
refusal_number_of refusal.DecimalLength = 18
refusal_number_of refusal.SameTarget = 19

-- The refusal's number, 0 if there is none.
abbrev pub refusal_number : {A : Type 0} → Result A Refusal → ℕ
refusal_number (Ok x) = 0
refusal_number (Err r) = refusal_number_of r

-- LOAD: the count of lines; or the refusal's number and the faulty line's index.
abbrev pub load_answer : Result ℕ LoadError → LoadReply
load_answer (Ok n) = Accepted n
load_answer (Err e) = Refused (refusal_number_of e.refusal) e.line

-- START: "A refused start hands back a record of zeros".
abbrev pub start_answer : Result Record Refusal → StartReply
start_answer (Ok r) = record { refusal = 0; rec = r }
start_answer (Err r) = record { refusal = refusal_number_of r; rec = zero_record }

-- GRANT: "a refused grant the record it was given, 0 values and 0 cycles".
abbrev pub grant_answer : (given : Record) → Result AcceptedGrant Refusal → GrantReply
grant_answer given (Ok g) = record { outcome = outcome.Stopped g.ending; rec = g.rec; values = g.values; cycles = g.cycles }
grant_answer given (Err r) = record { outcome = outcome.Refused (refusal_number_of r); rec = given; values = 0; cycles = 0 }

-- DECIMAL: "With 18 the count is 0."
abbrev pub decimal_answer : Result ℕ Refusal → DecimalReply
decimal_answer (Ok n) = record { refusal = 0; count = n }
decimal_answer (Err r) = record { refusal = refusal_number_of r; count = 0 }
