use Rattle.crossings.proofs.Meeting.{again_more, again_left, again_end}
use Rattle.crossings.proofs.Crossings.meets_again.Goals as goal

pub returns-then-not-passes : goal.returns-then-not-passes
returns-then-not-passes c = search again_left

pub loop-k-preserved : goal.loop-k-preserved
loop-k-preserved c = search again_more

pub returns : goal.returns
returns c = search again_end
