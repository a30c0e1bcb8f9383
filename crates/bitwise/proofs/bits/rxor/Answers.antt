use lib.Bits.{bit_xor}
use Rattle.model.proofs.Ranges.{xor-bits}
use Rattle.bitwise.proofs.BitLaws.{kept, operation}
use Rattle.bitwise.proofs.bits.rxor.Goals as goal

pub signed-requires-clause-u_bound : goal.signed-requires-clause-u_bound
signed-requires-clause-u_bound c = kept xor-bits c.requires.limit c.bits.ensures.range c.bits-2.ensures.range

pub returns-clause-value : goal.returns-clause-value
returns-clause-value c =
    operation bit_xor c.ranges.x c.ranges.y c.args.m (record { sfits = c.signed.type_inv })
    c.bits.ensures.value c.bits-2.ensures.value c.signed.ensures.value
