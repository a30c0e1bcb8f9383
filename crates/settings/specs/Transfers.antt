-- Calls of read or write, one after the other, on the bytes of one buffer.
use Rattle.std.specs.Prelude.{ℕ, ◌+◌, ◌-◌, cond, eqb, ltb, Result, Ok, Err}
use Rattle.settings.specs.declared.transfers.CallError.{CallError}
use Rattle.settings.specs.declared.transfers.CallError.TheVariants.{Interrupted, Other}
use Rattle.settings.specs.declared.transfers.Failed.{Failed}
use Rattle.settings.specs.declared.transfers.Transfer.{Transfer}

-- As many calls as 64 bits can count, which no run makes.
abbrev pub most_calls : ℕ
most_calls = 18446744073709551615

-- Before the first call on a buffer of that length.
abbrev pub begun : (length : ℕ) → Transfer
begun length = record { count = 0; length = length; calls = cond (eqb length 0) 0 most_calls }

-- Behind a call that moved n bytes. None is the end, and behind the buffer's last byte there is nothing left to do.
unfoldable pub advanced : Transfer → (n : ℕ) → Transfer
advanced t n =
    cond (eqb n 0) (record { count = t.count; length = t.length; calls = 0 })
    (cond (ltb n (t.length - t.count)) (record { count = t.count + n; length = t.length; calls = t.calls - 1 })
    (record { count = t.length; length = t.length; calls = 0 }))

-- Behind a call that moved nothing and says so: one that was interrupted is made again, any other failed and is the last.
abbrev pub halted : Transfer → CallError → Result Transfer Failed
halted t Interrupted = Ok (record { count = t.count; length = t.length; calls = t.calls - 1 })
halted t Other = Err (record { count = t.count })

-- Behind a call that answered a count of bytes, or why it moved none.
abbrev pub after_call : Transfer → Result ℕ CallError → Result Transfer Failed
after_call t (Ok n) = Ok (advanced t n)
after_call t (Err e) = halted t e

-- The bytes of the file: "A missing file counts as empty", and so does one that cannot be read.
abbrev pub contents : Result Transfer Failed → ℕ
contents (Ok t) = t.count
contents (Err e) = 0
