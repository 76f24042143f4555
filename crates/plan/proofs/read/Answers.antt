use borrow.Author.Rules.{rules}
use Rattle.plan.proofs.Steps.{plan_listed, plan_refused}
use Rattle.plan.proofs.Promises.{read_promise}
use Rattle.plan.proofs.read.Goals as goal

pub returns-in-Ok-clause-set_read : goal.returns-in-Ok-clause-set_read
returns-in-Ok-clause-set_read c = search (read_promise, plan_listed, rules)

pub returns-in-Err-clause-set_read : goal.returns-in-Err-clause-set_read
returns-in-Err-clause-set_read c = search (read_promise, plan_refused, rules)
