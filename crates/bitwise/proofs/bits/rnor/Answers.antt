use lib.Bits.{bit_or}
use Rattle.model.proofs.Ranges.{or-bits}
use Rattle.bitwise.proofs.BitLaws.{inverse}
use Rattle.bitwise.proofs.bits.rnor.Goals as goal

pub returns-clause-value : goal.returns-clause-value
returns-clause-value c =
    let r = c.ror in
    let n = c.rnot in
    let h = c.requires.within in
    inverse bit_or c.ranges.x c.ranges.y or-bits c.requires.limit h.0 h.1 (record { sfits = r.type_inv }) (record { sfits = n.type_inv })
    r.ensures.value r.ensures.range n.ensures.by_index
