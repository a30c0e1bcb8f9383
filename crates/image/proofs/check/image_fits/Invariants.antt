use Rattle.image.proofs.ImageLaws.{Remaining}
use Rattle.image.proofs.check.image_fits.Given as goal

abbrev pub invariant-loop-at : goal.invariant-loop-at
invariant-loop-at l = Remaining l.fn.p l.image l.at
