use Rattle.blocks.proofs.Terms.{counted_none, counted_one, counted_more}
use Rattle.blocks.proofs.count_of.Goals as goal

pub returns-then-a-b-clause-value : goal.returns-then-a-b-clause-value
returns-then-a-b-clause-value c = search counted_none

pub returns-then-t-eq0-clause-value : goal.returns-then-t-eq0-clause-value
returns-then-t-eq0-clause-value c = search counted_one

pub returns-clause-value : goal.returns-clause-value
returns-clause-value c = search counted_more
