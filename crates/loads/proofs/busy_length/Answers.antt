use Rattle.loads.proofs.Climb.{climbs_start, climbs_on, climbs_rest, climbs_past}
use Rattle.loads.proofs.busy_length.Goals as goal
use borrow.Author.Rules.{rules}

pub loop-x-init : goal.loop-x-init
loop-x-init c = (search rules, search climbs_start)

pub returns-then-next-x-clause-value : goal.returns-then-next-x-clause-value
returns-then-next-x-clause-value c = search climbs_rest

pub loop-x-preserved : goal.loop-x-preserved
loop-x-preserved c = (search rules, search climbs_on)

pub returns-clause-value : goal.returns-clause-value
returns-clause-value c = search climbs_past
