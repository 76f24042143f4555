use native.Mathlib.Omega.{arith}
use Rattle.least.proofs.Stores.{ahead_then}
use Rattle.crossings.proofs.Noting.{pair_more}
use Rattle.crossings.proofs.note_flow.Goals as goal

pub loop-b-preserved : goal.loop-b-preserved
loop-b-preserved c = (
  ahead_then _ _ _ c.loop-b.invariant.0 _ _ (omega arith) c.note_pair.ensures.ahead,
  pair_more c.args.net.now c.loop-b.pairs _ c.args.a c.loop-b.b c.loop-b.invariant.1 c.note_pair.ensures.pair_is c.note_pair.ensures.ahead,
)
