use Rattle.crossings.proofs.Meeting.{meets_more, meets_here, meets_end}
use Rattle.crossings.proofs.Crossings.meets.Goals as goal

pub returns-then-passes : goal.returns-then-passes
returns-then-passes c = search meets_here

pub loop-k-preserved : goal.loop-k-preserved
loop-k-preserved c = search meets_more

pub returns : goal.returns
returns c = search meets_end
