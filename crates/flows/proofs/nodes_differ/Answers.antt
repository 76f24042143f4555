use Rattle.flows.proofs.Loops.{differ_more, differ_fails, differ_end}
use Rattle.flows.proofs.nodes_differ.Goals as goal

pub returns-then-not-not_again : goal.returns-then-not-not_again
returns-then-not-not_again c = search differ_fails

pub loop-i-preserved : goal.loop-i-preserved
loop-i-preserved c = search differ_more

pub returns : goal.returns
returns c = search differ_end
