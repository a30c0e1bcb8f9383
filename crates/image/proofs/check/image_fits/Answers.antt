-- `check::image_fits` meets its contract. Assumes nothing.
use mathlib.Core.Path.{◌∙◌, ◌≡◌}
use Prim.Native.Nat.{◌/◌}
use borrow.Author.Rules.{part_to_end}
use native.Mathlib.Omega.{arith}
use lib.ListN.{length}
use Rattle.image.proofs.ImageLaws.{ends, cell-runs, cell_empty, cell_invalid}
use Rattle.image.proofs.check.image_fits.Goals as goal

pub loop-at-preserved : goal.loop-at-preserved
loop-at-preserved c =
    let a = c.args in
    let few : length a.image.now / 4 ≡ a.p.t = omega (arith, c.requires.image_len) in
    cell-runs a.p a.image.now c.loop-at.invariant (omega (arith, c.loop-at-test.true, c.as_chunks.ensures.front_len)) few (rw (c.new-limits.ensures, c.as_chunks.ensures.front) at c.decode.ensures) c.in-Runs.is

pub returns-in-Empty : goal.returns-in-Empty
returns-in-Empty c =
    let a = c.args in
    let few : length a.image.now / 4 ≡ a.p.t = omega (arith, c.requires.image_len) in
    rw part_to_end at c.all_zero.ensures
    ∙ cell_empty a.p a.image.now c.loop-at.invariant (omega (arith, c.loop-at-test.true, c.as_chunks.ensures.front_len)) few (rw (c.new-limits.ensures, c.as_chunks.ensures.front) at c.decode.ensures) c.in-Empty.is

pub returns-in-Invalid : goal.returns-in-Invalid
returns-in-Invalid c =
    let a = c.args in
    let few : length a.image.now / 4 ≡ a.p.t = omega (arith, c.requires.image_len) in
    cell_invalid a.p a.image.now c.loop-at.invariant (omega (arith, c.loop-at-test.true, c.as_chunks.ensures.front_len)) few (rw (c.new-limits.ensures, c.as_chunks.ensures.front) at c.decode.ensures) c.in-Invalid.is

pub returns : goal.returns
returns c = ends c.args.p c.args.image.now c.loop-at.invariant (omega (arith, c.loop-at-test.false, c.as_chunks.ensures.front_len, c.requires.image_len))
