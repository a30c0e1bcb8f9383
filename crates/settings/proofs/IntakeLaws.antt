-- An intake behind a read; and what is known of a file before its end. Assumes nothing.
use Prim.Native.Nat.{ℕ, ◌<◌}
use mathlib.Core.Path.{◌≡◌, refl, sym, ap, ◌∙◌}
use mathlib.Core.Bool.{Bool, true, false}
use mathlib.Core.List.{List, [], ◌∷◌, ◌++◌, append_assoc, append-nil, foldl-append}
use native.Mathlib.Omega.{arith}
use lib.Dec.{eqb, ltb}
use lib.ListN.{take}
use borrow.Author.Tests.{eqb-true, ltb-true}
use Rattle.model.proofs.Fits.{both}
use Rattle.model.specs.Numbers.{is_blank}
use Rattle.model.specs.Settings.{zeros, settings}
use Rattle.settings.specs.Intakes.{known_wrong, goes_on, at_end, taken, Pieces, ends, stops, next}
use Rattle.settings.specs.Scans.{unread, ended, extends, scanned, scanned_all, scan_of, settings_of}
use Rattle.settings.specs.declared.Scan.{Scan}
use Rattle.settings.specs.declared.intakes.Intake.{Intake}
use Rattle.settings.specs.declared.transfers.Failed.{Failed}
use Rattle.settings.specs.declared.transfers.Transfer.{Transfer}
use Rattle.std.specs.Prelude.{Option, Some, None, Ok, Err}
use Rattle.settings.proofs.ScanLaws.{Void, ended-sixth, scanned-blank, scanned-digit, scanned-bad}
use Rattle.settings.proofs.Chunks.{settings_of_void, settings_of-file}

module _ (a : Intake) (bytes : List ℕ) (t : Transfer) where
  taken-end : at_end t ≡ true → record { scan = a.scan; calls = 0 } ≡ taken a (Ok t) bytes
  unfolding taken
  taken-end e = sym (simp (taken, e))

  taken_piece : at_end t ≡ false → goes_on a (scanned_all a.scan (take t.count bytes)) ≡ taken a (Ok t) bytes
  unfolding taken
  taken_piece e = sym (simp (taken, e))

-- A FILE THAT IS KNOWN TO BE WRONG
-- A sixth word has begun.
record Sixth (a : Scan) : Type 0 where
  count : a.count ≡ 5
  some : 0 < a.digits

sixth-ended : (a : Scan) → Sixth a → Void (ended a)
sixth-ended a h = ended-sixth a (λ e. omega (arith, h.some)) (omega (arith, h.count))

settings_of_sixth : (s : List ℕ) (a : Scan) → Sixth a → settings_of (scanned_all (Some a) s) ≡ zeros
unfolding settings_of
settings_of_sixth [] a h = simp (settings_of, sixth-ended a h)
settings_of_sixth (b ∷ s) a h = go (is_blank b) refl (extends a b) refl (settings_of_sixth s)
  where
    go : (x : Bool) → is_blank b ≡ x → (y : Bool) → extends a b ≡ y → ((r : Scan) → Sixth r → settings_of (scanned_all (Some r) s) ≡ zeros) →
        settings_of (scanned_all (scanned (Some a) b) s) ≡ zeros
    go true n y e later = rw (scanned-blank a b n) (settings_of_void s (ended a) (sixth-ended a h))
    go false n true e later = rw (scanned-digit a b n e) (later _ (record { count = h.count; some = omega (arith, h.some) }))
    go false n false e later = rw (scanned-bad a b n e) (settings_of_void s None refl)

wrong-settings : (s : List ℕ) (a : Option Scan) → known_wrong a ≡ true → settings_of (scanned_all a s) ≡ zeros
unfolding known_wrong
wrong-settings s None h = settings_of_void s None refl
wrong-settings s (Some a) h =
    let b = both (eqb a.count 5) (ltb 0 a.digits) h in
    settings_of_sixth s a (record { count = eqb-true a.count 5 b.0; some = ltb-true 0 a.digits b.1 })

-- Where the bytes so far are known to be wrong, every file that begins with them counts as five zeros, and so does the scan that stops there.
pub known_wrong_lem : (before : List ℕ) → known_wrong (scan_of before) ≡ true →
    (settings_of (scan_of before) ≡ zeros) × ((rest : List ℕ) → settings (before ++ rest) ≡ zeros)
known_wrong_lem before h =
    (wrong-settings [] (scan_of before) h, λ rest. sym (settings_of-file (before ++ rest)) ∙ ap settings_of (foldl-append scanned (Some unread) before rest) ∙ wrong-settings rest (scan_of before) h)

-- ALL READS
module _ (a : Intake) (t : Transfer) (bytes : List ℕ) where
  piece_scan : at_end t ≡ false → (before : List ℕ) → a.scan ≡ scan_of before → (taken a (Ok t) bytes).scan ≡ scan_of (before ++ take t.count bytes)
  unfolding goes_on
  piece_scan part before e =
      ap (λ (x : Intake). x.scan) (sym (taken_piece a bytes t part))
      ∙ ap (λ (x : Option Scan). scanned_all x (take t.count bytes)) e
      ∙ sym (foldl-append scanned (Some unread) before (take t.count bytes))

-- However the file comes in pieces, the scan that they end with gives the settings of the whole file.
pub pieces-settings : {a b : Intake} {rest : List ℕ} → Pieces a rest b → (before : List ℕ) → a.scan ≡ scan_of before → settings_of b.scan ≡ settings (before ++ rest)
pieces-settings {a} (ends t bytes end) before e =
    ap settings_of (ap (λ (x : Intake). x.scan) (sym (taken-end a bytes t end)) ∙ e) ∙ settings_of-file before ∙ ap settings (sym (append-nil before))
pieces-settings {a} (stops t bytes rest part wrong) before e =
    let piece = take t.count bytes in
    let scan = piece_scan a t bytes part before e in
    let same = ap (λ (x : Option Scan). scanned_all x piece) e ∙ sym (foldl-append scanned (Some unread) before piece) in
    let known = known_wrong_lem (before ++ piece) (ap known_wrong (sym same) ∙ wrong) in
    ap settings_of scan ∙ known.0 ∙ sym (known.1 rest) ∙ ap settings (append_assoc before piece rest)
pieces-settings {a} (next t bytes rest part later) before e =
    let piece = take t.count bytes in
    pieces-settings later (before ++ piece) (piece_scan a t bytes part before e) ∙ ap settings (append_assoc before piece rest)

-- A file that cannot be read counts as empty.
pub taken-failed : (a : Intake) (e : Failed) (bytes : List ℕ) → record { scan = Some unread; calls = 0 } ≡ taken a (Err e) bytes
unfolding taken
taken-failed a e bytes = refl
