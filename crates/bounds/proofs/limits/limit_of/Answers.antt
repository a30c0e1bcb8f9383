use native.Mathlib.Omega.{arith}
use Rattle.std.proofs.lemmas.Grind.{common_steps}
use Rattle.bounds.proofs.limits.limit_of.Goals as goal

pub returns-clause-limit : goal.returns-clause-limit
returns-clause-limit c =
    record { k = c.args.k; low = c.requires.0; high = c.requires.1; is = grind (arith, common_steps) }
