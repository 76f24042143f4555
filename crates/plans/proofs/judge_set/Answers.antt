use Rattle.plans.proofs.Answers.{set_refused, set_accepted}
use Rattle.plans.proofs.Promises.{judge_promise}
use Rattle.plans.proofs.judge_set.Goals as goal

pub returns-in-Ok : goal.returns-in-Ok
returns-in-Ok c = record { value = search set_accepted; set_judged = search (judge_promise, set_accepted) }

pub returns-in-Err : goal.returns-in-Err
returns-in-Err c = record { value = search set_refused; set_judged = search (judge_promise, set_refused) }
