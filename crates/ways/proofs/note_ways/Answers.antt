use mathlib.Core.Path.{◌∙◌}
use Rattle.ways.proofs.Noting.{flow_more}
use Rattle.ways.proofs.note_ways.Goals as goal

pub loop-a-preserved : goal.loop-a-preserved
loop-a-preserved c = (
  c.note_flow.ensures.ahead.long ∙ c.loop-a.invariant.0,
  flow_more c.args.set.now.net.now c.loop-a.ways _ c.loop-a.a c.loop-a.invariant.1 c.note_flow.ensures.places_are c.note_flow.ensures.ahead,
)
