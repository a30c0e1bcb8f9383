-- `number_word` meets its contract: what is read decides, and a number that is read is in range. Assumes nothing.
use Prim.Native.Nat.{ℕ, ◌≤◌, ◌<◌, ◌^◌}
use mathlib.Core.Path.{◌≡◌, sym, ap, ◌∙◌}
use native.Mathlib.Omega.{arith}
use lib.IntN.{ℤ}
use lib.Signed.{mag}
use mathlib.Core.Option.{Option}
use mir.Facts.{to_z-of_z}
use mir.Syntax.{w32}
use mir.Val.{SFits}
use Rattle.std.proofs.Common.{Ok, Err}
use Rattle.model.specs.Words.{word_of, number_bits, number_kind}
use Rattle.model.specs.Load.{fine}
use Rattle.numbers.specs.Reading.{reading_of}
use Rattle.model.specs.declared.Parameters.{Parameters}
use Rattle.model.specs.Parameters.{limit, Fit}
use Rattle.model.specs.Numbers.{number}
use Rattle.model.proofs.Fits.{limits, limit-low, limit-high}
use Rattle.numbers.proofs.ReadingLaws.{reading-range}
use Rattle.loader.proofs.ArgumentLaws.{numbered, number_read}
use Rattle.loader.proofs.arguments.number_word.Goals as goal

-- M is 128 to 2^29.
limit-bounds : (p : Parameters) (m : ℕ) → Fit p → m ≡ limit p.k → (1 ≤ m) × (m ≤ 2 ^ 29)
limit-bounds p m f e = let l = limits p f in (omega (arith, e, limit-low l.k-low), omega (arith, e, limit-high l.k-high))

-- The number that was read is in range.
number_size : (p : Parameters) (m : ℕ) (o : Option ℤ) (z : ℤ) → Fit p → m ≡ limit p.k → reading_of m o ≡ Ok z → mag z < 2 ^ 29
number_size p m o z f e r =
    let b = limit-bounds p m f e in
    let h = reading-range m b.0 o z r in
    omega (arith, b.1)

number_fits : (z : ℤ) → mag z < 2 ^ 29 → SFits w32 z
number_fits z h = record { sfits = omega (arith, h) }

pub read_number-requires : goal.read_number-requires
read_number-requires c = let l = c.args.limits in limit-bounds l.parameters l.m l.fit l.m_value

pub literal_word-requires : goal.literal_word-requires
literal_word-requires c =
    let l = c.args.limits in
    let m : mag c.in-Ok.z < 2 ^ 29 = number_size l.parameters l.m (number c.args.w.now) c.in-Ok.z l.fit l.m_value (sym c.read_number.ensures.value ∙ c.in-Ok.is) in
    rw (to_z-of_z (number_fits c.in-Ok.z m)) m

pub returns-in-Err-Outside : goal.returns-in-Err-Outside
returns-in-Err-Outside c =
    let l = c.args.limits in
    ap numbered (sym (c.in-Err-Outside.is ∙ ap Err c.in-Err-Outside.field-0-is))
    ∙ number_read l.parameters c.args.form (λ z. sym (c.allows_number.ensures z) ∙ c.if-not-allows_number.false) l.m_value (number c.args.w.now) c.read_number.ensures.value

pub returns-in-Ok : goal.returns-in-Ok
returns-in-Ok c =
    let l = c.args.limits in
    let m : mag c.in-Ok.z < 2 ^ 29 = number_size l.parameters l.m (number c.args.w.now) c.in-Ok.z l.fit l.m_value (sym c.read_number.ensures.value ∙ c.in-Ok.is) in
    ap fine (c.literal_word.ensures ∙ ap (λ (z : ℤ). word_of number_kind (number_bits z)) (to_z-of_z (number_fits c.in-Ok.z m)))
    ∙ ap numbered (sym c.in-Ok.is)
    ∙ number_read l.parameters c.args.form (λ z. sym (c.allows_number.ensures z) ∙ c.if-not-allows_number.false) l.m_value (number c.args.w.now) c.read_number.ensures.value
