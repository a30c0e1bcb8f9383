-- Document 01, "Replies of each call": start, grant and the decimal writer. Load's stand in Load.antt.
use Rattle.std.specs.Prelude.{ℕ, zero, suc, ◌+◌, ◌-◌, Bool, true, not, ◌&&◌, ◌||◌, cond, List, [], ◌∷◌, ◌++◌, eqb, ltb, leb, ℤ, pos, ◌-ℤ◌, length, drop, replicate}
use Rattle.std.specs.Int.Signed.{le_z}
use Rattle.model.specs.declared.Parameters.{Parameters}
use Rattle.model.specs.declared.Record.{Record}
use Rattle.model.specs.declared.Ending.{Ending}
use Rattle.model.specs.declared.Ending.TheVariants.{Failed, Ended, Paused, OutputFull}
use Rattle.model.specs.Grants.{Outcome}
use Rattle.model.specs.Grants.{Refused, Stopped}
use Rattle.model.specs.Parameters.{Check, ◌unless◌, refusal_of, all_pass, parameter_checks, limit, max_input, max_grant, max_granted, in_range}
use Rattle.model.specs.Numbers.{bytes, decimal, longest_decimal}
use Rattle.model.specs.Words.{is_empty}
use Rattle.model.specs.Load.{length_check}
use Rattle.model.specs.Images.{image_fits}
use Rattle.model.specs.Grants.{Call, Account, Result, grant}
use Rattle.model.specs.Step.{Environment, with_parameters, Memory, as_memory, State, current_cell, step_cost, step_values, Tak}

-- THE BUFFERS OF A CALL, as records: `as_held` and the like make one of the slices that a function was lent.
-- What goes from call to call: the record and the memory.
pub record Held : Type 0 where
  pub rec : Record
  pub memory : Memory

abbrev pub as_held : Record → (registers cells : List ℤ) → Held
as_held r registers cells = record { rec = r; memory = as_memory registers cells }

abbrev pub as_call : (cycles : ℕ) (slice : List ℤ) → Call
as_call cycles slice = record { cycles = cycles; slice = slice }

-- What start replies: the refusal's number, 0 if there is none, and the record.
pub record StartReply : Type 0 where
  pub refusal : ℕ
  pub rec : Record

-- That, and the memory after it.
pub record Started : Type 0 where
  pub reply : StartReply
  pub memory : Memory

abbrev pub as_started : StartReply → (registers cells : List ℤ) → Started
as_started r registers cells = record { reply = r; memory = as_memory registers cells }

-- What a grant replies: what came of it, the record, "the number of values written and the cycles spent in this call".
pub record GrantReply : Type 0 where
  pub outcome : Outcome
  pub rec : Record
  pub values : ℕ
  pub cycles : ℕ

-- That, and the memory and the output slice after it.
pub record Granted : Type 0 where
  pub reply : GrantReply
  pub memory : Memory
  pub slice : List ℤ

abbrev pub as_granted : GrantReply → (registers cells slice : List ℤ) → Granted
as_granted r registers cells slice = record { reply = r; memory = as_memory registers cells; slice = slice }

-- "the record and memory that an accepted start with the list's image left"
abbrev pub held_after_start : Started → Held
held_after_start x = record { rec = x.reply.rec; memory = x.memory }

-- "the record and memory that the one before it left"
abbrev pub held_after : Granted → Held
held_after x = record { rec = x.reply.rec; memory = x.memory }

-- START
-- "Start makes the fresh record (all 0 but SHR = B-1) with its parameters"; the deepest SHR is "B-1 at first" (request E1).
abbrev pub fresh_record : Parameters → Record
fresh_record p =
    let head = pos p.b -ℤ pos 1 in
    record { parameters = p; iar = 0; ircr = 0; shr = head; place = 0; granted = 0; spent = 0; deepest = head }

-- "A refused start hands back a record of zeros".
abbrev pub zero_record : Record
zero_record =
    record {
      parameters = record { k = 0; n = 0; s = 0; b = 0; t = 0 };
      iar = 0;
      ircr = 0;
      shr = pos 0;
      place = 0;
      granted = 0;
      spent = 0;
      deepest = pos 0;
    }

-- "1..6": the parameters, and the length of the image slice.
abbrev pub shape_checks : Parameters → (image : List ℕ) → List Check
shape_checks p image = parameter_checks p ++ (length_check p image ∷ [])

-- "9 register or data slice of another length"
abbrev pub memory_fits : Parameters → Memory → Bool
memory_fits p m = eqb (length m.registers) p.n && eqb (length m.cells) p.s

abbrev pub memory_check : Parameters → Memory → Check
memory_check p m = 9 unless (memory_fits p m)

-- "10 an image that no text yields under the loading rules, refusal 7 disregarded"
abbrev pub image_check : Parameters → (image : List ℕ) → Check
image_check p image = 10 unless (image_fits p image)

-- "1..6; 9": what comes before 10.
abbrev pub size_checks : Environment → Memory → List Check
size_checks e m = shape_checks e.parameters e.image ++ (memory_check e.parameters m ∷ [])

-- "Start: 1..6; 9 ..; 10 .."
unfoldable pub start_checks : Environment → Memory → List Check
start_checks e m = size_checks e m ++ (image_check e.parameters e.image ∷ [])

-- Start makes the fresh record and "zeroes registers and data".
abbrev pub fresh_memory : Parameters → Memory
fresh_memory p = as_memory (replicate p.n (pos 0)) (replicate p.s (pos 0))

-- Start, which reads no input: "1..6; 9; 10", or the fresh record and memory.
unfoldable pub started : Environment → Memory → Started
started e m =
    elim (refusal_of (start_checks e m)) [
      | zero ↦ record { reply = record { refusal = 0; rec = fresh_record e.parameters }; memory = fresh_memory e.parameters }
      | suc k ↦ record { reply = record { refusal = suc k; rec = zero_record }; memory = m }
    ]

-- GRANT

-- No "register or data value outside -M..M-1".
abbrev pub all_in_range : (m : ℕ) → List ℤ → Bool
all_in_range m [] = true
all_in_range m (z ∷ zs) = in_range m z && all_in_range m zs

-- What 15 asks of a record, with an input of this length: not "a record with IAR outside 0..T, IRCR outside 0..3, SHR outside B-1..S-1,
-- spent over granted, granted over 10^15 or the place past the input". Request E1: "between SHR and S-1 ..; A record where it lies outside these
-- bounds gets 15."
abbrev pub record_tests : Parameters → (input : ℕ) → Account State → List Bool
record_tests p input a =
    leb a.state.iar p.t
    ∷ leb a.state.ircr 3
    ∷ le_z (pos p.b -ℤ pos 1) a.state.shr
    ∷ le_z a.state.shr (pos p.s -ℤ pos 1)
    ∷ leb a.spent a.granted
    ∷ leb a.granted max_granted
    ∷ leb a.state.place input
    ∷ le_z a.state.shr a.deepest
    ∷ le_z a.deepest (pos p.s -ℤ pos 1)
    ∷ []

-- What 15 asks of the memory: not "a register or data value outside -M..M-1".
abbrev pub memory_tests : Parameters → Memory → List Bool
memory_tests p m = all_in_range (limit p.k) m.registers ∷ all_in_range (limit p.k) m.cells ∷ []

-- The memory of a state.
abbrev pub memory_of : State → Memory
memory_of s = as_memory s.registers s.cells

-- Not 15: every test passes.
unfoldable pub record_fits : Environment → Account State → Bool
record_fits e a = all_pass (record_tests e.parameters (length e.input) a ++ memory_tests e.parameters (memory_of a.state))

-- "Grant: 1..6, 9, 10 as above; 15 ..; 16 input over 65,536 bytes; 17 a grant over 10^9 or one that takes granted over 10^15."
unfoldable pub grant_checks : Environment → Account State → Call → List Check
grant_checks e a c =
    start_checks e (memory_of a.state) ++ (
    15 unless (record_fits e a)
    ∷ 16 unless (leb (length e.input) max_input)
    ∷ 17 unless (leb c.cycles max_grant && leb (a.granted + c.cycles) max_granted)
    ∷ [])

-- The number of a grant's refusal, or 0.
unfoldable pub grant_refusal : Environment → Account State → Call → ℕ
grant_refusal e a c = refusal_of (grant_checks e a c)

-- The machine's state, granted, spent and the deepest SHR, from the record and the memory.
abbrev pub account_of : Held → Account State
account_of h =
    let r = h.rec in
    let m = h.memory in
    record {
      state = record { iar = r.iar; ircr = r.ircr; shr = r.shr; place = r.place; registers = m.registers; cells = m.cells };
      granted = r.granted;
      spent = r.spent;
      deepest = r.deepest;
    }

-- the record of an account
abbrev pub record_of : Parameters → Account State → Record
record_of p a =
    record {
      parameters = p;
      iar = a.state.iar;
      ircr = a.state.ircr;
      shr = a.state.shr;
      place = a.state.place;
      granted = a.granted;
      spent = a.spent;
      deepest = a.deepest;
    }

-- The record keeps its parameters.
abbrev pub granted_by : Parameters → Result State → Granted
granted_by p x =
    record {
      reply = record { outcome = x.reply.outcome; rec = record_of p x.account; values = x.reply.count; cycles = x.reply.cycles };
      memory = memory_of x.account.state;
      slice = x.slice;
    }

-- A grant is lent an image and an input; the parameters are its record's.
abbrev pub environment_for : Environment → Held → Environment
environment_for e h = with_parameters h.rec.parameters e

-- Grant. "The result is the ending, the new record, the number of values written and the cycles spent in this call."
unfoldable pub granted : Environment → Held → Call → Granted
granted e h c =
    let own = environment_for e h in
    granted_by h.rec.parameters (grant (Tak own) (grant_refusal own) (account_of h) c)

-- The paper's number of an outcome: the refusal's, 0 for an accepted grant.
unfoldable pub outcome_number : Outcome → ℕ
outcome_number (Refused k) = k
outcome_number (Stopped e) = 0

-- The paper's word for an ending, "in capitals".
unfoldable pub ending_word : Ending → List ℕ
ending_word Failed = bytes "FAILED"
ending_word Ended = bytes "ENDED"
ending_word Paused = bytes "PAUSED"
ending_word OutputFull = bytes "OUTPUT FULL"

-- That of an outcome; a refusal has none.
unfoldable pub outcome_word : Outcome → List ℕ
outcome_word (Refused k) = []
outcome_word (Stopped e) = ending_word e

-- The word of the ending that holds at a state, by the state alone: "it looks, in order: IRCR not 0, it ends "failed"; IAR = T or an empty cell,
-- "ended"; granted - spent below the cost, "paused"; room in the output slice below the values the step writes, "output full"".
unfoldable pub stop_word : Environment → Account State → (room : ℕ) → List ℕ
stop_word e a room =
    let s = a.state in
    cond (not (eqb s.ircr 0)) (bytes "FAILED")
    (cond (eqb s.iar e.parameters.t || is_empty (current_cell e s)) (bytes "ENDED")
    (cond (ltb (a.granted - a.spent) (step_cost e s)) (bytes "PAUSED")
    (cond (ltb room (length (step_values e s))) (bytes "OUTPUT FULL")
    [])))

-- What the decimal writer replies: the refusal's number, 0 if there is none, and the count of bytes written.
pub record DecimalReply : Type 0 where
  pub refusal : ℕ
  pub count : ℕ

-- That, and the bytes after it.
pub record Spelled : Type 0 where
  pub reply : DecimalReply
  pub bytes : List ℕ

-- "Decimal writer: 18 fewer than 11 bytes lent. .. later bytes are untouched. With 18 the count is 0."
unfoldable pub spelled : ℤ → (old : List ℕ) → Spelled
spelled z old =
    cond (ltb (length old) longest_decimal)
    (record { reply = record { refusal = 18; count = 0 }; bytes = old })
    (record { reply = record { refusal = 0; count = length (decimal z) }; bytes = decimal z ++ drop (length (decimal z)) old })
