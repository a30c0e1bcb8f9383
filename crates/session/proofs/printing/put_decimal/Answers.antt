-- `put_decimal` meets its contract. Assumes nothing.
use Rattle.session.proofs.Pieces.{decimal_put}
use Rattle.session.proofs.printing.put_decimal.Goals as goal

pub unwrap-requires : goal.unwrap-requires
unwrap-requires c = (decimal_put c.args.out.now c.ranges.value c.requires c.write_decimal.ensures).0

pub returns : goal.returns
returns c =
    let put = (decimal_put c.args.out.now c.ranges.value c.requires c.write_decimal.ensures).1 _ c.unwrap.ensures in
    record { put = put.0; within = put.1 }
