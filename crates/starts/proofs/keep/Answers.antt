use Prim.Native.Nat.{◌-◌}
use Rattle.starts.proofs.Kept.{noded_none, noded_more, noded_left}
use native.Mathlib.Omega.{arith}
use Rattle.starts.proofs.keep.Goals as goal

pub loop-p-init : goal.loop-p-init
loop-p-init c =
    (noded_none c.args.e.now c.args.stride c.args.m c.args.end c.args.u c.args.steps.now c.requires.shaped.4 (omega arith), λ later j h on. c.requires.kept_to later j on)

pub loop-p-preserved : goal.loop-p-preserved
loop-p-preserved c =
    (noded_more c.args.e.now c.args.stride c.args.m c.args.end c.args.u c.args.steps.now c.loop-p.steps c.loop-p.next c.loop-p.at c.loop-p.p c.loop-p.invariant.0 (omega arith) c.keep_node-step.new.steps c.keep_node-step.ensures.inside c.keep_node-step.result c.min-next.result c.keep_node-step.ensures.kept_now.0 c.keep_node-step.ensures.kept_now.1 c.min-next.ensures, λ later. noded_left c.args.e.now c.args.stride c.args.m c.args.end c.args.u c.args.steps.now c.loop-p.steps c.loop-p.next c.loop-p.at c.loop-p.p c.loop-p.invariant.0 (omega arith) c.keep_node-step.new.steps c.keep_node-step.ensures.inside (c.args.u - 1) (c.loop-p.invariant.1 later))
