use Rattle.crossings.proofs.Costs.{cost_past, cost_there}
use Rattle.crossings.proofs.Crossings.cost_on.Goals as goal

pub returns-then-hops-at-clause-value : goal.returns-then-hops-at-clause-value
returns-then-hops-at-clause-value c = search cost_past

pub returns-clause-value : goal.returns-clause-value
returns-clause-value c = search cost_there
