use Rattle.plans.proofs.Answers.{plan_refused, plan_judged}
use Rattle.plans.proofs.Promises.{read_promise}
use borrow.Author.Rules.{rules}
use Rattle.plans.proofs.read_plan.Goals as goal

pub returns-in_default : goal.returns-in_default
returns-in_default c = record { value = search (plan_judged, rules); plan_read = search (read_promise, plan_judged, rules) }

pub returns : goal.returns
returns c = record { value = search plan_refused; plan_read = search (read_promise, plan_refused, rules) }
