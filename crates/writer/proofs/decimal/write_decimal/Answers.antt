-- `decimal::write_decimal` meets its contract. Assumes nothing.
use Prim.Native.Nat.{◌≤◌}
use native.Mathlib.Omega.{arith}
use lib.ListN.{length-drop, length-set}
use Rattle.std.proofs.lemmas.List.{take_rest}
use Rattle.writer.proofs.Spelling.{digits_fit, sign_fits}
use Rattle.writer.proofs.decimal.write_decimal.Goals as goal

pub write_natural-requires : goal.write_natural-requires
write_natural-requires c =
    let sign : c.from-sign.result ≤ 1 = rw c.from-sign.ensures (sign_fits _) in
    let digits = digits_fit 9 c.from-n.result (omega (arith, c.from-n.ensures, c.unsigned_abs.ensures.bound)) in
    rw (take_rest, length-drop, length-set) (omega (arith, c.if-out-lt-LONGEST.false))
