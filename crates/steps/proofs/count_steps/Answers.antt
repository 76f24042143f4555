use mathlib.Core.Path.{ap}
use Prim.Native.Nat.{◌+◌, ◌-◌, ◌*◌}
use native.Mathlib.Omega.{arith}
use Rattle.least.specs.Lists.{values}
use Rattle.blocks.specs.Sheet.{head_size, entry_size}
use Rattle.steps.proofs.Counting.{counted_none, counted_more, counted-all, steps-none}
use Rattle.steps.proofs.count_steps.Goals as goal

pub returns-then-m-eq0 : goal.returns-then-m-eq0
returns-then-m-eq0 c = steps-none c.args.e.now c.args.m c.args.x c.if-m-eq0.true

pub loop-q-init : goal.loop-q-init
loop-q-init c =
    (c.block_at-block.ensures.value, ap (λ i. values c.args.e.now (i + 2)) c.block_at-block.ensures.value, counted_none c.args.e.now (c.args.m - 1) c.args.x)

pub loop-q-preserved : goal.loop-q-preserved
loop-q-preserved c =
    (c.loop-q.invariant.0, c.loop-q.invariant.1, counted_more c.args.e.now (c.args.m - 1) c.args.x c.loop-q.q c.loop-q.sum c.packets-sum.result _ (ap (λ b. b + head_size + c.loop-q.q * entry_size) c.loop-q.invariant.0) c.loop-q.invariant.2 c.packets-sum.ensures.value c.packets-sum.ensures.upper_bound)

pub returns : goal.returns
returns c =
    counted-all c.args.e.now c.args.m c.args.x c.loop-q.q c.loop-q.sum c.if-m-eq0.false c.loop-q.invariant.2 (omega arith)
