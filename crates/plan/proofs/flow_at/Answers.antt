use Rattle.plan.proofs.Steps.{flow_part}
use Rattle.plan.proofs.flow_at.Goals as goal

pub returns : goal.returns
returns c = search flow_part
