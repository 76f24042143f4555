use Rattle.plans.proofs.Promises.{write_promise}
use borrow.Author.Rules.{rules}
use Rattle.plans.proofs.write_plan.Goals as goal

pub returns : goal.returns
returns c = record { value = search rules; buffer_after = search rules; plan_written = search write_promise }
