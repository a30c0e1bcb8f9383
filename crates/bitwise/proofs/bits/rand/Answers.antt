use lib.Bits.{bit_and}
use Rattle.bitwise.proofs.BitLaws.{operation}
use Rattle.bitwise.proofs.bits.rand.Goals as goal

pub returns-clause-value : goal.returns-clause-value
returns-clause-value c =
    operation bit_and c.ranges.x c.ranges.y c.args.m (record { sfits = c.signed.type_inv })
    c.bits.ensures.value c.bits-2.ensures.value c.signed.ensures.value
