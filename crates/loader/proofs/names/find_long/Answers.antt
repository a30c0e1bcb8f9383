-- `find_long` meets its contract: only the first four names are so long. Assumes nothing.
use Rattle.std.proofs.Common.{Option, ℕ, sym, subst}
use Rattle.model.specs.Load.{lookup}
use Rattle.loader.specs.Keys.{Finds}
use Rattle.loader.proofs.NameLaws.{long-found}
use Rattle.loader.proofs.names.find_long.Goals as goal

pub returns : goal.returns
returns c = let w = c.args.w.now in subst (λ (o : Option ℕ). Finds o (lookup w)) (sym c.find_word.ensures) (long-found w c.requires)
