-- `put_record` meets its contract. Assumes nothing.
use Prim.Native.Nat.{ℕ, ◌<◌, ◌^◌}
use mathlib.Core.List.{[], ◌∷◌}
use mathlib.Core.Path.{◌≡◌, ◌∙◌}
use native.Mathlib.Omega.{arith}
use lib.IntN.{ℤ, pos}
use lib.Signed.{mag}
use mir.Facts.{to_z_pos, to_z-of_z}
use mir.Syntax.{w64}
use mir.Val.{SFits, to_z, of_z}
use Rattle.tak.proofs.records.put_record.Goals as goal

-- A number of 32 bits, as a slice of 64-bit numbers has it.
widened : {z : ℤ} {n : ℕ} → mag z < 2 ^ 63 → z ≡ pos n → to_z w64 (of_z w64 z) ≡ pos n
widened f e = to_z-of_z {w = w64} (record { sfits = f }) ∙ e

pub returns : goal.returns
returns c =
    let narrow = c.requires.0 in
    let shr : SFits w64 c.args.rec.shr = record { sfits = omega arith } in
    let deepest : SFits w64 c.args.rec.deepest = record { sfits = omega arith } in
    c.copy_from_slice.ensures.after
    ∙ (λ i.
    widened c.from.type_inv c.from.ensures i
    ∷ widened c.from-2.type_inv c.from-2.ensures i
    ∷ widened c.from-3.type_inv c.from-3.ensures i
    ∷ widened c.from-4.type_inv c.from-4.ensures i
    ∷ widened c.from-5.type_inv c.from-5.ensures i
    ∷ widened c.from-6.type_inv c.from-6.ensures i
    ∷ widened c.from-7.type_inv c.from-7.ensures i
    ∷ to_z-of_z shr i
    ∷ to_z_pos w64 narrow.place i
    ∷ to_z_pos w64 narrow.granted i
    ∷ to_z_pos w64 narrow.spent i
    ∷ to_z-of_z deepest i
    ∷ [])
