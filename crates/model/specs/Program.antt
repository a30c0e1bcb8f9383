-- Document 01, "Marked runs": the program `takrun`, from the contents of its three files to the bytes that it prints.
-- "A missing file counts as empty": its contents are [].
use Rattle.std.specs.Prelude.{ℕ, zero, suc, ◌*◌, Bool, true, false, List, [], ◌++◌, pos, take, replicate}
use Rattle.model.specs.declared.Record.{Record}
use Rattle.model.specs.declared.Ending.{Ending}
use Rattle.model.specs.declared.Ending.TheVariants.{Failed, Ended, Paused, OutputFull}
use Rattle.model.specs.Grants.{Outcome}
use Rattle.model.specs.Grants.{Refused, Stopped}
use Rattle.model.specs.Load as load
use Rattle.model.specs.Load.{load_reply, image_of}
use Rattle.model.specs.Grants.{Call}
use Rattle.model.specs.Step.{Environment, environment_of}
use Rattle.model.specs.Calls.{Held, Started, fresh_memory, started, held_after_start, Granted, granted, held_after}
use Rattle.model.specs.Lines.{value_lines, ending_line, refusal_line}
use Rattle.model.specs.Settings.{settings}

-- A grant that is followed by another.
abbrev pub is_full : Outcome → Bool
is_full (Refused k) = false
is_full (Stopped Failed) = false
is_full (Stopped Ended) = false
is_full (Stopped Paused) = false
is_full (Stopped OutputFull) = true

-- The last line; none after a full output.
abbrev pub ending_lines : Ending → Record → List ℕ
ending_lines Failed r = ending_line Failed r.ircr r.iar r.spent
ending_lines Ended r = ending_line Ended r.ircr r.iar r.spent
ending_lines Paused r = ending_line Paused r.ircr r.iar r.spent
ending_lines OutputFull r = []

-- "A refused call prints one line, `REFUSED`, number, line index (0 but from load), and is the last."
abbrev pub last_lines : Outcome → Record → List ℕ
last_lines (Refused k) r = refusal_line k 0
last_lines (Stopped e) r = ending_lines e r

-- "It prints each value on a line, then on one line the ending .."
abbrev pub reply_lines : Granted → List ℕ
reply_lines x = value_lines (take x.reply.values x.slice) ++ last_lines x.reply.outcome x.reply.rec

-- "Its output slice has 4,096 values."
abbrev pub slice_values : ℕ
slice_values = 4096

-- A grant of `takrun`, lent this slice.
abbrev pub slice_call : (cycles : ℕ) → Call
slice_call cycles = record { cycles = cycles; slice = replicate slice_values (pos 0) }

-- "grants .. then 0 after each full output": the lines from a grant of `cycles` on, over at most `grants` of them.
unfoldable pub grant_lines : Environment → (grants cycles : ℕ) → Held → List ℕ
grant_lines e zero cycles h = []
grant_lines e (suc n) cycles h =
    let x = granted e h (slice_call cycles) in
    reply_lines x ++ elim (is_full x.reply.outcome) [ true ↦ grant_lines e n 0 (held_after x) | false ↦ [] ]

-- "grants 10^9 once"
abbrev pub first_grant : ℕ
first_grant = 1_000_000_000

-- The lines behind a start: a full output has spent at least one of these cycles, so that 10^9 + 1 grants are never used up.
abbrev pub start_lines : Environment → Started → List ℕ
start_lines e s =
    elim s.reply.refusal [
      | zero ↦ grant_lines e (suc first_grant) first_grant (held_after_start s)
      | suc k ↦ refusal_line (suc k) 0
    ]

-- What `takrun` prints for the contents of `tak.par`, `tak.tcl` and `tak.in`.
unfoldable pub printed : (par text input : List ℕ) → List ℕ
printed par text input =
    let p = settings par in
    let e = environment_of p (image_of p text) input in
    elim (load_reply p text (replicate (4 * p.t) 0)) [
      | load.Accepted n ↦ start_lines e (started e (fresh_memory p))
      | load.Refused k i ↦ refusal_line k i
    ]
