-- `special` meets its contract. Assumes nothing.
use Rattle.std.proofs.Common.{Option, ℕ, sym, subst}
use Rattle.model.specs.Load.{special_of}
use Rattle.loader.specs.Keys.{Finds}
use Rattle.loader.proofs.ArgumentLaws.{special-found}
use Rattle.loader.proofs.arguments.special.Goals as goal

pub returns : goal.returns
returns c = let w = c.args.w.now in subst (λ (o : Option ℕ). Finds o (special_of w)) (sym c.find_word.ensures) (special-found w)
