use mathlib.Core.Path.{◌∙◌}
use Rattle.crossings.proofs.Noting.{flow_more}
use Rattle.crossings.proofs.note_pairs.Goals as goal

pub loop-a-preserved : goal.loop-a-preserved
loop-a-preserved c = (
  c.note_flow.ensures.ahead.long ∙ c.loop-a.invariant.0,
  flow_more c.args.net.now c.loop-a.pairs _ c.loop-a.a c.loop-a.invariant.1 c.note_flow.ensures.by_index c.note_flow.ensures.ahead,
)
