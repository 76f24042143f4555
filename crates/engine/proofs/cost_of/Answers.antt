use mathlib.Core.Path.{◌∙◌}
use Rattle.engine.proofs.Tally.{place_fits, cost_read}
use Rattle.engine.proofs.cost_of.Goals as goal

pub bounds-f-k : goal.bounds-f-k
bounds-f-k c = search place_fits

pub returns-clause-value : goal.returns-clause-value
returns-clause-value c = c.from.ensures ∙ search cost_read
