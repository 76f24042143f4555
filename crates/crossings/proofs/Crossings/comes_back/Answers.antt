use Rattle.crossings.proofs.Meeting.{back_more, back_met, back_end}
use Rattle.crossings.proofs.Crossings.comes_back.Goals as goal

pub returns-then-passes : goal.returns-then-passes
returns-then-passes c = search back_met

pub loop-k-preserved : goal.loop-k-preserved
loop-k-preserved c = search back_more

pub returns : goal.returns
returns c = search back_end
