use lib.Signed.{shr_z, mag_shr}
use mir.Facts.{to_z-of_z}
use mir.Syntax.{w32}
use mir.Val.{SFits}
use mir.ValLaws.{sfits_le}
use Rattle.bitwise.proofs.BitLaws.{halved}
use Rattle.bitwise.proofs.bits.asr.Goals as goal

pub returns-clause-by_index : goal.returns-clause-by_index
returns-clause-by_index c =
    let f = c.ranges.x in
    let g : SFits w32 (shr_z c.args.x 2) = sfits_le (mag_shr c.args.x 2) f in
    simp to_z-of_z (λ m h. halved m c.args.x h)
