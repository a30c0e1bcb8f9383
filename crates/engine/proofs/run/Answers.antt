-- `run` meets its contract. Assumes nothing.
use Prim.Native.Nat.{◌+◌, ◌-◌}
use mathlib.Core.Path.{◌≡◌, refl}
use native.Mathlib.Omega.{arith}
use Rattle.engine.proofs.RunLaws.{begins, is-found, stopped, cost-paid, cost-some, room_for, steppable, goes_on}
use Rattle.engine.proofs.run.Goals as goal

pub overflow_sub-allowance : goal.overflow_sub-allowance
overflow_sub-allowance c = c.requires.paid

pub loop-ending-init : goal.loop-ending-init
loop-ending-init c =
    let e : c.args.granted - (c.args.granted - c.args.before) ≡ c.args.before = omega (arith, c.requires.paid) in
    (omega arith, rw e (begins _ _ _ _ _ _ _ c.requires))

pub returns-in-Err : goal.returns-in-Err
returns-in-Err c =
    let i = c.loop-ending.invariant in
    let e : c.args.granted - (c.args.granted - c.loop-ending.allowance) ≡ c.loop-ending.allowance = omega (arith, i.0) in
    stopped c.args.program.now i.1 (is-found c.args.program.now i.1 (rw e c.look.ensures) c.in-Err.is)

pub overflow_sub-allowance-in-Ok : goal.overflow_sub-allowance-in-Ok
overflow_sub-allowance-in-Ok c =
    let i = c.loop-ending.invariant in
    let e : c.args.granted - (c.args.granted - c.loop-ending.allowance) ≡ c.loop-ending.allowance = omega (arith, i.0) in
    omega (arith, i.0, cost-paid c.args.program.now i.1 (is-found c.args.program.now i.1 (rw e c.look.ensures) c.in-Ok.is))

pub overflow_add-count : goal.overflow_add-count
overflow_add-count c =
    let i = c.loop-ending.invariant in
    let e : c.args.granted - (c.args.granted - c.loop-ending.allowance) ≡ c.loop-ending.allowance = omega (arith, i.0) in
    record { fits = omega (arith, room_for c.args.program.now i.1 (is-found c.args.program.now i.1 (rw e c.look.ensures) c.in-Ok.is), i.1.long, c.well_formed) }

-- A step keeps the invariant.
pub loop-ending-preserved : goal.loop-ending-preserved
loop-ending-preserved c =
    let i = c.loop-ending.invariant in
    let e : c.args.granted - (c.args.granted - c.loop-ending.allowance) ≡ c.loop-ending.allowance = omega (arith, i.0) in
    let found = is-found c.args.program.now i.1 (rw e c.look.ensures) c.in-Ok.is in
    let paid = cost-paid c.args.program.now i.1 found in
    let spent : c.args.granted - (c.loop-ending.allowance - c.in-Ok.offer.cost) ≡ c.args.granted - c.loop-ending.allowance + c.in-Ok.offer.cost =
    omega (arith, i.0, paid) in (
      omega (arith, i.0),
      rw spent (goes_on c.args.program.now i.1 found _ (c.step-at.ensures.state _) c.step-at.ensures.output refl c.max-peak.ensures),
    )

pub step-at-requires : goal.step-at-requires
step-at-requires c =
    let i = c.loop-ending.invariant in
    let e : c.args.granted - (c.args.granted - c.loop-ending.allowance) ≡ c.loop-ending.allowance = omega (arith, i.0) in
    steppable c.args.program.now i.1 (is-found c.args.program.now i.1 (rw e c.look.ensures) c.in-Ok.is)

pub loop-ending-smaller : goal.loop-ending-smaller
loop-ending-smaller c =
    let i = c.loop-ending.invariant in
    let e : c.args.granted - (c.args.granted - c.loop-ending.allowance) ≡ c.loop-ending.allowance = omega (arith, i.0) in
    let found = is-found c.args.program.now i.1 (rw e c.look.ensures) c.in-Ok.is in
    omega (arith, i.0, cost-paid c.args.program.now i.1 found, cost-some c.args.program.now i.1 found)
