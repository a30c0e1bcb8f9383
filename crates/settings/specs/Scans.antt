-- The scan of a file whose bytes come in chunks, as the code makes it. That it gives the `settings` of the file is in proofs/Chunks.antt.
use Rattle.std.specs.Prelude.{ℕ, ◌+◌, ◌*◌, ◌-◌, Bool, ◌&&◌, cond, eqb, ltb, Option, Some, None}
use mathlib.Core.List.{List, foldl}
use Rattle.model.specs.Numbers.{is_blank, is_digit}
use Rattle.model.specs.declared.Parameters.{Parameters}
use Rattle.model.specs.Settings.{zeros}
use Rattle.settings.specs.declared.Scan.{Scan}

-- before the first byte
abbrev pub unread : Scan
unread = record { last = zeros; count = 0; digits = 0; value = 0 }

-- the last five words, with v behind them
abbrev pub shifted : Parameters → ℕ → Parameters
shifted p v = record { k = p.n; n = p.s; s = p.b; b = p.t; t = v }

-- with one word more
abbrev pub with_word : Scan → Scan
with_word a = record { last = shifted a.last a.value; count = a.count + 1; digits = 0; value = 0 }

-- Behind a word, if there is one. No scan is left behind a sixth.
unfoldable pub ended : Scan → Option Scan
ended a = cond (eqb a.digits 0) (Some a) (cond (ltb a.count 5) (Some (with_word a)) None)

-- b is one digit more of at most nine. Up to eight have a value below 100,000,000, so that this test fails only in a scan of no file.
abbrev pub extends : Scan → ℕ → Bool
extends a b = is_digit b && (ltb a.digits 9 && ltb a.value 100_000_000)

-- behind such a digit
abbrev pub extended : Scan → ℕ → Scan
extended a b = record { last = a.last; count = a.count; digits = a.digits + 1; value = a.value * 10 + (b - 48) }

-- Behind one byte more. No scan is left behind any other byte that is no blank, nor behind what follows it.
unfoldable pub scanned : Option Scan → ℕ → Option Scan
scanned None b = None
scanned (Some a) b = cond (is_blank b) (ended a) (cond (extends a b) (Some (extended a b)) None)

-- behind the bytes of a chunk
abbrev pub scanned_all : Option Scan → List ℕ → Option Scan
scanned_all a s = foldl scanned a s

-- the scan of a file's bytes so far
abbrev pub scan_of : List ℕ → Option Scan
scan_of s = scanned_all (Some unread) s

-- the last five words, if five ended
abbrev pub five_of : Option Scan → Parameters
five_of None = zeros
five_of (Some a) = cond (eqb a.count 5) a.last zeros

-- the parameters, at the end of the file
unfoldable pub settings_of : Option Scan → Parameters
settings_of None = zeros
settings_of (Some a) = five_of (ended a)
