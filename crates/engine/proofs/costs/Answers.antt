use borrow.Author.Rules.{rules}
use Rattle.engine.proofs.Tally.{sum_more, sum_end}
use Rattle.engine.proofs.costs.Goals as goal

pub loop-k-preserved : goal.loop-k-preserved
loop-k-preserved c = (search rules, search sum_more)

pub returns-clause-value : goal.returns-clause-value
returns-clause-value c = search sum_end
