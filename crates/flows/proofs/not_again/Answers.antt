use Rattle.flows.proofs.Loops.{later_more, later_fails, later_end}
use Rattle.flows.proofs.not_again.Goals as goal

pub returns-then-f-k : goal.returns-then-f-k
returns-then-f-k c = search later_fails

pub loop-k-preserved : goal.loop-k-preserved
loop-k-preserved c = search later_more

pub returns : goal.returns
returns c = search later_end
