-- A record as numbers, in the order of include/tak.h.
use Rattle.std.specs.Prelude.{ℕ, ◌<◌, ◌^◌, cond, List, [], ◌∷◌, eqb, leb, ℤ, pos, negsuc, get_or}
use Rattle.model.specs.declared.Record.{Record}

-- A number as a field of 0..most holds it: one that it cannot hold counts as `most`. No check lets `most` pass, so that no grant with such a
-- number is accepted, and what an accepted one was given is exact (proofs/Exact.antt).
unfoldable pub held : (most : ℕ) → ℤ → ℕ
held most (pos n) = cond (leb n most) n most
held most (negsuc n) = most

-- The greatest numbers of 32 and of 64 bits.
abbrev pub most32 : ℕ
most32 = 4_294_967_295

abbrev pub most64 : ℕ
most64 = 18_446_744_073_709_551_615

-- The number at a position.
abbrev pub at : List ℤ → ℕ → ℤ
at z i = get_or z i (pos 0)

-- How many numbers a record is.
abbrev pub record_length : ℕ
record_length = 12

-- The record that the numbers are: K N S B T, IAR, IRCR, SHR, the input place, granted, spent, the deepest SHR.
abbrev pub record_from : List ℤ → Record
record_from z =
    record {
      parameters = record { k = held most32 (at z 0); n = held most32 (at z 1); s = held most32 (at z 2); b = held most32 (at z 3); t = held most32 (at z 4) };
      iar = held most32 (at z 5);
      ircr = held most32 (at z 6);
      shr = at z 7;
      place = held most64 (at z 8);
      granted = held most64 (at z 9);
      spent = held most64 (at z 10);
      deepest = at z 11;
    }

-- The numbers of a record, in that order.
abbrev pub fields_of : Record → List ℤ
fields_of r =
    pos r.parameters.k
    ∷ pos r.parameters.n
    ∷ pos r.parameters.s
    ∷ pos r.parameters.b
    ∷ pos r.parameters.t
    ∷ pos r.iar
    ∷ pos r.ircr
    ∷ r.shr
    ∷ pos r.place
    ∷ pos r.granted
    ∷ pos r.spent
    ∷ r.deepest
    ∷ []

-- The record slice after a call: its record where the number is 0; a refusal leaves the slice.
unfoldable pub record_after : (number : ℕ) → Record → (old : List ℤ) → List ℤ
record_after number rec old = cond (eqb number 0) (fields_of rec) old

-- The fields that could be too great for the signed numbers of a slice are not. An accepted call's record is so (proofs/Narrow.antt).
pub record Narrow (r : Record) : Type 0 where
  pub place : r.place < 2 ^ 63
  pub granted : r.granted < 2 ^ 63
  pub spent : r.spent < 2 ^ 63
