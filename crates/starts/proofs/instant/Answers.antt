use Prim.Native.Nat.{◌+◌}
use Rattle.starts.proofs.Nodes.{first_set, going_past, going_more, going_end}
use Rattle.starts.proofs.Kept.{strided-room}
use mathlib.Core.Path.{ap}
use Rattle.least.specs.Lists.{values}
use native.Mathlib.Omega.{arith}
use Rattle.starts.proofs.instant.Goals as goal

pub bounds-steps-at : goal.bounds-steps-at
bounds-steps-at c = omega (arith, (strided-room c.requires.strided.0 c.loop-p.invariant.1 (omega arith)).0)

pub bounds-steps-at-in-loop-p : goal.bounds-steps-at-in-loop-p
bounds-steps-at-in-loop-p c = omega (arith, (strided-room c.requires.strided.0 c.loop-p.invariant.1 (omega arith)).0)

pub returns-in_err-w-clause-instant_is : goal.returns-in_err-w-clause-instant_is
returns-in_err-w-clause-instant_is c =
    λ W t g. going_past c.args.e.now c.args.m c.args.u _ _ c.loop-p.slots c.loop-p.best c.loop-p.p c.loop-p.invariant.0 (omega arith) c.requires.shaped.0.looks c.start_at.result c.start_at.ensures.begin_is _ c.in_err-w.was c.from_residual.result c.from_residual.ensures.0 _ _ W t (first_set c.args.e.now c.args.m c.args.u c.args.slots.now W g)

pub loop-p-preserved : goal.loop-p-preserved
loop-p-preserved c =
    let add = ap (λ x. values c.args.e.now (x + 1)) c.block_at.ensures.value in
    (going_more c.args.e.now c.args.m c.args.u _ _ c.loop-p.slots c.loop-p.best c.loop-p.p c.loop-p.invariant.0 (omega arith) c.requires.shaped.0.looks c.start_at.result c.start_at.ensures.begin_is c.start_at.ensures.begin_fits _ c.in_ok-w.was c.start_at.new.v c.start_at.ensures.kept c.saturating_sub-bound.result (omega arith) c.raise_at.new.best c.raise_at.ensures c.requires.shaped.1, omega (arith, c.loop-p.invariant.1))

pub returns-clause-instant_is : goal.returns-clause-instant_is
returns-clause-instant_is c =
    λ W s g. going_end c.args.e.now c.args.m c.args.u _ _ c.loop-p.slots c.loop-p.best c.loop-p.p c.loop-p.invariant.0 (omega arith) W s (first_set c.args.e.now c.args.m c.args.u c.args.slots.now W g)
