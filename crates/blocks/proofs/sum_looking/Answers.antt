use mathlib.Core.Path.{ap}
use Prim.Native.Nat.{◌+◌}
use Rattle.least.specs.Lists.{values}
use Rattle.blocks.specs.Sheet.{instant_slot}
use Rattle.blocks.proofs.Terms.{instant_sum_small}
use Rattle.blocks.proofs.Looks.{look_none, look_more, look_all}
use native.Mathlib.Omega.{arith}
use Rattle.blocks.proofs.sum_looking.Goals as goal

pub loop-q-init : goal.loop-q-init
loop-q-init c =
    let v = values c.args.v.now in
    (c.block_at-at.ensures.value, ap (λ x. values c.args.e.now (x + 2)) c.block_at-at.ensures.value, look_none c.args.e.now c.args.p v c.args.kept, omega (arith, c.requires.3, instant_sum_small c.args.e.now c.args.p (v instant_slot) c.requires.0.small (c.requires.1 instant_slot) c.block_at-at.ensures.p_in_bounds.1))

pub loop-q-preserved : goal.loop-q-preserved
loop-q-preserved c =
    (c.loop-q.invariant.0, c.loop-q.invariant.1, look_more c.args.e.now c.args.p (values c.args.v.now) _ c.loop-q.invariant.0 c.loop-q.q c.loop-q.sum c.add_look-sum.result c.args.kept c.loop-q.invariant.2 c.add_look-sum.ensures.value, omega arith)

pub returns-clause-value : goal.returns-clause-value
returns-clause-value c = look_all c.args.e.now c.args.p (values c.args.v.now) c.loop-q.q c.loop-q.sum c.args.kept c.loop-q.invariant.2 c.requires.3 (omega arith)
