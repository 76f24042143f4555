use Rattle.flows.proofs.Loops.{used_more, used_fails, used_end}
use Rattle.flows.proofs.used_fit.Goals as goal

pub returns-then-not-hop_fits : goal.returns-then-not-hop_fits
returns-then-not-hop_fits c = search used_fails

pub loop-k-preserved : goal.loop-k-preserved
loop-k-preserved c = search used_more

pub returns : goal.returns
returns c = search used_end
