use Rattle.tallies.proofs.Lays.{laying_none, laying_more, step_later}
use native.Mathlib.Omega.{arith}
use Rattle.tallies.proofs.lay.Goals as goal

pub overflow_sub-d : goal.overflow_sub-d
overflow_sub-d c = omega (arith, step_later c.args.a c.args.b c.args.t (omega arith) c.count_of-c.result c.count_of-c.ensures.value)

pub loop-d-init : goal.loop-d-init
loop-d-init c =
    (laying_none c.args.a c.args.b c.args.t c.args.w (omega arith) c.args.tally.now c.count_of-c.result c.count_of-c.ensures.value, c.count_of-c.ensures.value)

pub loop-d-preserved : goal.loop-d-preserved
loop-d-preserved c =
    (laying_more c.args.a c.args.b c.args.t c.args.w (omega arith) c.args.tally.now c.loop-d.tally c.loop-d.d c.loop-d.invariant.0 (omega (arith, c.loop-d.invariant.0.long)), c.loop-d.invariant.1)
