use Rattle.loads.proofs.Whole.{strays_found, strays_none}
use Rattle.loads.proofs.misplaced_flow.Goals as goal

pub returns-then-strays : goal.returns-then-strays
returns-then-strays c = search strays_found

pub returns : goal.returns
returns c = search strays_none
