-- `direct_word` meets its contract. Assumes nothing.
use Rattle.std.proofs.Common.{sym, ap, ◌∙◌, arith}
use lib.ListN.{drop}
use Rattle.model.specs.Load.{checked_argument}
use Rattle.model.specs.Numbers.{natural}
use Rattle.model.proofs.Fits.{limits}
use Rattle.loader.specs.Faults.{indexed_of}
use Rattle.loader.proofs.ArgumentLaws.{after-m, direct-checked}
use Rattle.loader.proofs.arguments.direct_word.Goals as goal

pub indexed-requires : goal.indexed-requires
indexed-requires c = let l = limits c.args.limits.parameters c.args.limits.fit in omega (arith, l.b-high, l.s-high)

pub returns : goal.returns
returns c =
    let p = c.args.limits.parameters in
    let w = c.args.w.now in
    let l = limits p c.args.limits.fit in
    let m = sym c.upper.ensures ∙ c.if-upper-ne77.false in
    c.indexed.ensures
    ∙ ap (indexed_of 2 p.b) c.read_digits_from.ensures
    ∙ direct-checked p c.args.form (λ v. sym (c.allows_direct.ensures v) ∙ c.if-not-allows_direct.false) (omega (arith, l.b-high, l.s-high)) (natural (drop 2 w))
    ∙ sym (ap (checked_argument p c.args.form) (after-m w (omega arith) m))
