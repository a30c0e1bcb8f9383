-- `reading::read_digits` meets its contract: n is the exact value e of the digits passed, cut at the cap, and all the digits come to those left
-- behind e. Assumes nothing.
use Prim.Native.Nat.{ℕ, ◌+◌, ◌*◌, ◌-◌, ◌^◌, ◌<◌, min}
use mathlib.Core.Bool.{true}
use mathlib.Core.List.{List}
use mathlib.Core.Path.{◌≡◌, sym, ap, ◌∙◌}
use native.Mathlib.Omega.{arith}
use Rattle.std.proofs.Common.{Some}
use lib.ListN.{length, get_or, drop}
use Rattle.std.proofs.lemmas.List.{take_rest}
use Rattle.model.specs.Numbers.{is_digit, digits_from}
use Rattle.numbers.specs.Reading.{capped}
use Rattle.numbers.proofs.ReadingLaws.{digits-end, natural-some, digit, no_digit}
use Rattle.numbers.proofs.reading.read_digits.Goals as goal

-- The digits passed, with the one at i, and their exact value.
passed : (w : List ℕ) (i n r : ℕ) → i < length w → is_digit (get_or w i 0) ≡ true → r ≡ min (2 ^ 30) (n * 10 + (get_or w i 0 - 48)) →
    (e : ℕ) × (n ≡ min (2 ^ 30) e) × (digits_from 0 w ≡ digits_from e (drop i w)) →
    (e : ℕ) × (r ≡ min (2 ^ 30) e) × (digits_from 0 w ≡ digits_from e (drop (i + 1) w))
passed w i n r l is next inv = (inv.0 * 10 + (get_or w i 0 - 48), omega (arith, inv.1, next), inv.2 ∙ digit w i l inv.0 is)

pub returns-then-not-is_digit : goal.returns-then-not-is_digit
returns-then-not-is_digit c =
    let inv = c.loop-i.invariant in
    let whole = natural-some c.args.w.now (cc) in
    let none = no_digit _ _ c.loop-i-test.true inv.0 (sym c.is_digit.ensures ∙ c.if-not-is_digit.true) in
    sym (ap capped (whole ∙ c.skip_zeros-digits.ensures ∙ inv.2 ∙ none))

pub returns-then-n-eq-CAP : goal.returns-then-n-eq-CAP
returns-then-n-eq-CAP c =
    let is = sym c.is_digit.ensures ∙ c.if-not-is_digit.false in
    let p = passed _ _ _ _ c.loop-i-test.true is c.append_digit-n.ensures c.loop-i.invariant in
    let whole = natural-some c.args.w.now (cc) in
    c.read_rest.ensures p.0 (omega (arith, p.1, c.if-n-eq-CAP.true))
    ∙ ap (λ (xs : List ℕ). capped (digits_from p.0 xs)) (take_rest c.skip_zeros-digits.result.now (c.loop-i.i + 1))
    ∙ sym (ap capped (whole ∙ c.skip_zeros-digits.ensures ∙ p.2))

pub loop-i-preserved : goal.loop-i-preserved
loop-i-preserved c =
    let is = sym c.is_digit.ensures ∙ c.if-not-is_digit.false in
    passed _ _ _ _ c.loop-i-test.true is c.append_digit-n.ensures c.loop-i.invariant

pub returns : goal.returns
returns c =
    let inv = c.loop-i.invariant in
    let whole = natural-some c.args.w.now (cc) in
    ap Some inv.1 ∙ sym (ap capped (whole ∙ c.skip_zeros-digits.ensures ∙ inv.2 ∙ digits-end _ _ inv.0 c.loop-i-test.false))
