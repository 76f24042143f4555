use Rattle.starts.proofs.Climb.{kept_set, climbs_more, climbs_at, climbs_past}
use mathlib.Core.Path.{refl}
use native.Mathlib.Omega.{arith}
use Rattle.starts.proofs.start_at.Goals as goal

pub returns-then-sum-w-clause-begin_is : goal.returns-then-sum-w-clause-begin_is
returns-then-sum-w-clause-begin_is c =
    climbs_at c.args.e.now c.args.p c.args.u c.args.v.now c.loop-w.v c.requires.3 c.args.from c.loop-w.w c.loop-w.invariant.2 (omega arith) c.loop-w.invariant.3 c.sum_at-sum.result c.sum_at-sum.ensures.value (omega arith)

pub loop-w-preserved : goal.loop-w-preserved
loop-w-preserved c =
    (c.loop-w.invariant.0, refl, kept_set c.args.v.now c.loop-w.v c.loop-w.invariant.2 (omega arith) c.loop-w.w (omega arith), climbs_more c.args.e.now c.args.p c.args.u c.args.v.now c.loop-w.v c.requires.3 c.args.from c.loop-w.w c.loop-w.invariant.2 (omega arith) c.loop-w.invariant.3 c.sum_at-sum.result c.sum_at-sum.ensures.value c.requires.0.looks, omega arith)

pub returns-clause-begin_is : goal.returns-clause-begin_is
returns-clause-begin_is c =
    climbs_past c.args.e.now c.args.p c.args.u c.args.v.now c.args.from c.loop-w.w _ c.loop-w.invariant.3 (omega arith)
