-- Bytes put into a buffer, piece behind piece. Assumes nothing.
use Prim.Native.Nat.{ℕ, suc, ◌+◌, ◌-◌, ◌^◌, ◌≤◌, ◌<◌}
use mathlib.Core.List.{List, [], ◌∷◌, ◌++◌, append_assoc, append-nil}
use mathlib.Core.Path.{◌≡◌, refl, sym, ap, ◌∙◌}
use native.Mathlib.Omega.{arith}
use lib.IntN.{ℤ, pos}
use lib.ListN.{length, take, drop, get_or, length-append}
use lib.Seq.{take-suc}
use lib.Signed.{mag}
use mir.Facts.{to_z-of_z}
use mir.Syntax.{w32}
use mir.Val.{SFits, to_z, of_z}
use borrow.Author.Tests.{le-ltb}
use borrow.Rule.Slice.PartMut.{put_mid}
use Rattle.model.proofs.Decimals.{digits-at-most, decimal-length}
use Rattle.model.specs.Calls.{Spelled, spelled}
use Rattle.model.specs.Numbers.{decimal, longest_decimal}
use Rattle.model.proofs.Replies.{positive}
use Rattle.model.specs.declared.Refusal.{Refusal}
use Rattle.std.specs.Prelude.{Result, Ok, Err, IsOk, is_ok}
use Rattle.writer.specs.Decimal.{written}
use Rattle.model.specs.Lines.{field, value_line, value_lines}
use Rattle.std.specs.List.{flat_map}
use Rattle.session.specs.Puts.{Put}
use Rattle.std.proofs.lemmas.Grind.{common_steps}

pub put-length : {out text out' : List ℕ} {r : ℕ} → Put out text out' r → length out' ≡ length out
put-length {out} {text} {r = r} p = grind (arith, common_steps)

-- A piece that was put into the rest of the buffer, behind another.
pub put_then : {out out₁ rest s t : List ℕ} {at n : ℕ} → Put out s out₁ at → Put (take (length out₁ - at) (drop at out₁)) t rest n →
    Put out (s ++ t) (put_mid at (length out₁ - at) out₁ rest) (at + n)
put_then {out} {out₁} {rest} {s} {t} {at} {n} p q = grind (arith, common_steps)

-- THE DECIMAL WRITER, lent enough
pub spelled-fits : (r : Result ℕ Refusal) {out : List ℕ} (z : ℤ) (old : List ℕ) → longest_decimal ≤ length old → written r out ≡ spelled z old →
    (r ≡ Ok (length (decimal z))) × (out ≡ decimal z ++ drop (length (decimal z)) old)
unfolding spelled
spelled-fits (Ok n) z old h e =
    let f = rw (le-ltb (length old) longest_decimal h) at e in
    (ap (λ (x : Spelled). Ok x.reply.count) f, ap (λ (x : Spelled). x.bytes) f)
spelled-fits (Err x) z old h e =
    let f = rw (le-ltb (length old) longest_decimal h) at e in
    absurd (positive x (ap (λ (y : Spelled). y.reply.refusal) f))

abbrev count-of : Result ℕ Refusal → ℕ
count-of (Ok n) = n
count-of (Err x) = 0

-- The decimal of z is put at the front of the buffer.
pub decimal_put : {z : ℤ} {r : Result ℕ Refusal} {new : List ℕ} (out : List ℕ) → SFits w32 z → longest_decimal ≤ length out →
    written r new ≡ spelled (to_z w32 (of_z w32 z)) out →
    IsOk r × ((n : ℕ) → r ≡ Ok n → Put out (decimal z) new n × (n ≤ longest_decimal))
decimal_put {z} {r} {new} out f h e =
    let d = spelled-fits r z out h (rw (to_z-of_z f) at e) in
    let k = decimal-length z f.sfits in (
      ap is_ok d.0,
      λ n q.
          let m : n ≡ length (decimal z) = ap count-of (sym q ∙ d.0) in
          (record { room = omega (arith, h, k); end = m; bytes = d.1 ∙ rw m }, omega (arith, m, k)),
    )

-- LENGTHS
pub value-line-length : (z : ℤ) → mag z < 2 ^ 31 → length (value_line z) ≤ 12
value-line-length z h = rw (length-append (decimal z) (10 ∷ [])) (omega (arith, decimal-length z h))

pub field-length : (n : ℕ) → n < 2 ^ 64 → length (field n) ≤ 21
field-length n h = omega (arith, digits-at-most (suc n) n (omega arith) 19 [] (omega arith))

-- The lines of the values up to one, and that one's.
pub lines_append : (xs ys : List ℤ) → value_lines (xs ++ ys) ≡ value_lines xs ++ value_lines ys
unfolding value_lines
lines_append [] ys = refl
lines_append (x ∷ xs) ys = ap (λ (s : List ℕ). value_line x ++ s) (lines_append xs ys) ∙ sym (append_assoc (value_line x) (value_lines xs) (value_lines ys))

pub lines_next : (values : List ℤ) (i : ℕ) → i < length values →
    value_lines (take (i + 1) values) ≡ value_lines (take i values) ++ value_line (get_or values i (pos 0))
unfolding value_lines
lines_next values i h =
    let e : i + 1 ≡ suc i = omega arith in
    ap value_lines (ap (λ (k : ℕ). take k values) e ∙ take-suc values i (pos 0) h)
    ∙ lines_append (take i values) (get_or values i (pos 0) ∷ [])
    ∙ ap (λ (s : List ℕ). value_lines (take i values) ++ s) (append-nil (value_line (get_or values i (pos 0))))

-- A word and the fields of numbers up to one, and that one's.
pub fields_next : (word : List ℕ) (numbers : List ℕ) (i : ℕ) → i < length numbers →
    word ++ flat_map field (take (i + 1) numbers) ≡ (word ++ flat_map field (take i numbers)) ++ field (get_or numbers i 0)
fields_next word numbers i h = grind (arith, common_steps)

-- Of all of them, and what is behind.
pub fields_all : (word numbers behind : List ℕ) (i : ℕ) → length numbers ≤ i →
    (word ++ flat_map field (take i numbers)) ++ behind ≡ word ++ (flat_map field numbers ++ behind)
fields_all word numbers behind i h = grind (arith, common_steps)
