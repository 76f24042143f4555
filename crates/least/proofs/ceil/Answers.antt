use Rattle.least.proofs.Count.{ceil_none, ceil_made}
use Rattle.least.proofs.ceil.Goals as goal

pub returns-then-t-eq0-clause-value : goal.returns-then-t-eq0-clause-value
returns-then-t-eq0-clause-value c = search ceil_none

pub returns-clause-value : goal.returns-clause-value
returns-clause-value c = search ceil_made
