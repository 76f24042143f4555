use native.Mathlib.Omega.{arith}
use Rattle.tallies.proofs.Calm.{calm_to_fits, calm_to_more}
use Rattle.tallies.proofs.calm_to.Goals as goal

pub calm_at-calm-requires-clause-by_index : goal.calm_at-calm-requires-clause-by_index
calm_at-calm-requires-clause-by_index c =
    (calm_to_fits c.args.e.now c.args.best.now c.args.u c.args.n c.loop-p.p c.loop-p.calm c.loop-p.invariant.0 c.loop-p.invariant.1, omega (arith, c.loop-p.invariant.0), omega (arith, c.loop-p.invariant.1.most, c.loop-p.invariant.2), omega (arith, c.loop-p.invariant.1.most))

pub loop-p-preserved : goal.loop-p-preserved
loop-p-preserved c =
    (omega arith, calm_to_more c.args.e.now c.args.best.now c.args.u c.args.n c.loop-p.p c.loop-p.calm c.calm_at-calm.result c.loop-p.invariant.1 c.calm_at-calm.ensures.calm_at, omega (arith, c.loop-p.invariant.2, c.calm_at-calm.ensures.tally_len_unchanged))
