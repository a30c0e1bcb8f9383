-- `tak.par`, read piece by piece.
use Rattle.std.specs.Prelude.{ℕ, ◌-◌, Bool, true, false, ◌&&◌, cond, List, [], ◌++◌, ◌≡◌, eqb, ltb, take, Option, Some, None, Result, Ok, Err}
use Rattle.settings.specs.Scans.{unread, scanned_all}
use Rattle.settings.specs.Transfers.{most_calls}
use Rattle.settings.specs.declared.intakes.Intake.{Intake}
use Rattle.settings.specs.declared.Scan.{Scan}
use Rattle.settings.specs.declared.transfers.Failed.{Failed}
use Rattle.settings.specs.declared.transfers.Transfer.{Transfer}

-- Whatever follows, the file has a word that is not 1 to 9 digits, or a sixth word (`known_wrong_lem` of proofs/IntakeLaws.antt).
unfoldable pub known_wrong : Option Scan → Bool
known_wrong None = true
known_wrong (Some a) = eqb a.count 5 && ltb 0 a.digits

-- before the first read
abbrev pub untaken : Intake
untaken = record { scan = Some unread; calls = most_calls }

-- behind a piece: a file that is known to be wrong is not read to its end
unfoldable pub goes_on : Intake → Option Scan → Intake
goes_on a s = record { scan = s; calls = cond (known_wrong s) 0 (a.calls - 1) }

-- A read that moved nothing and is not made again: the end of the file.
abbrev pub at_end : Transfer → Bool
at_end t = eqb t.count 0 && eqb t.calls 0

-- Behind one read into `bytes`. After one that failed the file counts as empty.
unfoldable pub taken : Intake → Result Transfer Failed → (bytes : List ℕ) → Intake
taken a (Err e) bytes = record { scan = Some unread; calls = 0 }
taken a (Ok t) bytes = cond (at_end t) (record { scan = a.scan; calls = 0 }) (goes_on a (scanned_all a.scan (take t.count bytes)))

-- Reads of the bytes `rest` of a file, one after the other, none of which failed: to the file's end, or until it is known to be wrong.
pub data Pieces : Intake → (rest : List ℕ) → Intake → Type 0 where
  ends : {a : Intake} (t : Transfer) (bytes : List ℕ) → at_end t ≡ true → Pieces a [] (taken a (Ok t) bytes)
  stops : {a : Intake} (t : Transfer) (bytes rest : List ℕ) →
      at_end t ≡ false →
      known_wrong (scanned_all a.scan (take t.count bytes)) ≡ true →
      Pieces a (take t.count bytes ++ rest) (taken a (Ok t) bytes)
  next : {a b : Intake} (t : Transfer) (bytes rest : List ℕ) →
      at_end t ≡ false →
      Pieces (taken a (Ok t) bytes) rest b →
      Pieces a (take t.count bytes ++ rest) b
