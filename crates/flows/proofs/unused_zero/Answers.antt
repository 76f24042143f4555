use Rattle.flows.proofs.Loops.{unused_more, unused_fails, unused_end}
use Rattle.flows.proofs.unused_zero.Goals as goal

pub returns-then-not-hop_zero : goal.returns-then-not-hop_zero
returns-then-not-hop_zero c = search unused_fails

pub loop-k-preserved : goal.loop-k-preserved
loop-k-preserved c = search unused_more

pub returns : goal.returns
returns c = search unused_end
