use lib.Bits.{bit_and}
use Rattle.model.proofs.Ranges.{and-bits}
use Rattle.bitwise.proofs.BitLaws.{inverse}
use Rattle.bitwise.proofs.bits.rnand.Goals as goal

pub returns-clause-value : goal.returns-clause-value
returns-clause-value c =
    let r = c.rand in
    let n = c.rnot in
    let h = c.requires.within in
    inverse bit_and c.ranges.x c.ranges.y and-bits c.requires.limit h.0 h.1 (record { sfits = r.type_inv }) (record { sfits = n.type_inv })
    r.ensures.value r.ensures.range n.ensures.by_index
