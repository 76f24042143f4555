use Rattle.blocks.proofs.Terms.{term_none, term_some}
use native.Mathlib.Omega.{arith}
use Rattle.blocks.proofs.term.Goals as goal

pub returns-then-weight-eq0-clause-value : goal.returns-then-weight-eq0-clause-value
returns-then-weight-eq0-clause-value c = term_none c.args.e.now c.args.k _ (omega arith)

pub returns-clause-value : goal.returns-clause-value
returns-clause-value c = term_some c.args.e.now c.args.k c.args.x c.count_of.result c.count_of.ensures.value
