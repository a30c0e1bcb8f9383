-- `put_field` meets its contract: a number of 64 bits has twenty digits at most. Assumes nothing.
use native.Mathlib.Omega.{arith}
use lib.ListN.{length-drop}
use Rattle.std.proofs.lemmas.List.{take_rest}
use Rattle.writer.proofs.Spelling.{digits_fit}
use Rattle.session.proofs.printing.put_field.Goals as goal

pub write_natural-requires : goal.write_natural-requires
write_natural-requires c =
    let digits = digits_fit 19 c.args.n (omega (arith, c.ranges.n.fits)) in
    rw (take_rest, length-drop) (omega (arith, c.requires))
