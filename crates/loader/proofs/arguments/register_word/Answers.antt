-- `register_word` meets its contract. Assumes nothing.
use Rattle.std.proofs.Common.{sym, ap, ◌∙◌, arith}
use Rattle.model.specs.Numbers.{natural}
use Rattle.model.proofs.Fits.{limits}
use Rattle.loader.specs.Faults.{indexed_of}
use Rattle.loader.proofs.ArgumentLaws.{register-checked}
use Rattle.loader.proofs.arguments.register_word.Goals as goal

pub indexed-requires : goal.indexed-requires
indexed-requires c = let l = limits c.args.limits.parameters c.args.limits.fit in omega (arith, l.n-high)

pub returns : goal.returns
returns c =
    let p = c.args.limits.parameters in
    let l = limits p c.args.limits.fit in
    c.indexed.ensures
    ∙ ap (indexed_of 1 p.n) c.read_digits.ensures
    ∙ register-checked p c.args.form (λ v. sym (c.allows_register.ensures v) ∙ c.if-not-allows_register.false) (omega (arith, l.n-high)) (natural c.args.digits.now)
