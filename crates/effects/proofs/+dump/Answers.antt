-- `dump` meets its contract. Assumes nothing.
use Rattle.std.proofs.Common.{List, ℤ, take, drop, length, ◌-◌, ap, ◌∙◌, arith}
use Rattle.effects.specs.Effects.{output_after}
use Rattle.effects.proofs.CopyLaws.{block-then-rest}
use Rattle.effects.proofs.+dump.Goals as goal

pub returns-in-Some : goal.returns-in-Some
returns-in-Some t c =
    let values = c.args.values.now in
    let out = c.args.out.now in
    let parts = c.in-Some.ensures.cases in
    let first = c.copy.new.out in
    block-then-rest values out 512 first _ (omega (arith, parts.2)) c.requires
    (c.copy.ensures ∙ ap (λ (l : List ℤ). output_after l out) parts.0)
    (c.dump.ensures ∙ ap (λ (l : List ℤ). output_after l (take (length first - 512) (drop 512 first))) parts.1)
