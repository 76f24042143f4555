use mathlib.Core.Path.{◌∙◌}
use native.Mathlib.Omega.{arith}
use Rattle.flows.proofs.Arrays.{length_of-map}
use Rattle.row.proofs.Arrays.{flow_none, flow_held}
use Rattle.row.proofs.flow_at.Goals as goal

pub returns-then-size-k : goal.returns-then-size-k
returns-then-size-k c = c.no_flow.ensures ∙ flow_none _ (search length_of-map) _ (omega (arith, c.size.ensures.value))

pub returns : goal.returns
returns c = flow_held _ (search length_of-map) _ (omega (arith, c.size.ensures.value)) _
