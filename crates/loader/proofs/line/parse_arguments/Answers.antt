-- `line::parse_arguments` meets its contract: each argument is read at its form, and no word is left. Assumes nothing.
use Rattle.std.proofs.Common.{sym, refl, ◌∙◌, arith}
use Rattle.text.specs.Words.{words_left}
use lib.ListN.{length-set}
use Rattle.loader.proofs.LineLaws.{at-start, forms-few, at-argument, all_read, too_many}
use Rattle.loader.proofs.line.parse_arguments.Goals as goal

pub loop-argument-init : goal.loop-argument-init
loop-argument-init c = (refl, at-start c.args.limits.parameters c.args.number (words_left c.args.words) _ c.requires)

pub next_argument-requires : goal.next_argument-requires
next_argument-requires c = forms-few c.args.limits.parameters c.args.number (words_left c.args.words) c.loop-argument.invariant.1

pub loop-argument-preserved : goal.loop-argument-preserved
loop-argument-preserved c =
    let inv = c.loop-argument.invariant in
    (simp length-set inv.0, at-argument c.args.limits.parameters c.args.number (words_left c.args.words) inv.1 c.in_ok-argument.field-0 inv.0 (omega (arith, c.loop-argument-test.true)) (c.in_ok-argument.ensures _ _))

pub returns-in-None : goal.returns-in-None
returns-in-None c =
    let inv = c.loop-argument.invariant in
    c.unless_one_target.ensures ∙ sym (all_read c.args.limits.parameters c.args.number (words_left c.args.words) inv.1 inv.0 (omega (arith, c.loop-argument-test.false, c.loop-argument.auto.argument-index-end)) c.in-None.ensures.steps.0)

pub returns-in-Some : goal.returns-in-Some
returns-in-Some c =
    sym (too_many c.args.limits.parameters c.args.number (words_left c.args.words) c.loop-argument.invariant.1 (omega (arith, c.loop-argument-test.false)) c.in-Some.ensures.steps)
