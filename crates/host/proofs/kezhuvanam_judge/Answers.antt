use Rattle.host.proofs.Numbers.{plan_place, coded}
use Rattle.host.proofs.Promises.{judge_promise}
use borrow.Author.Rules.{rules}
use Rattle.host.proofs.kezhuvanam_judge.Goals as goal

pub outcome_code-requires : goal.outcome_code-requires
outcome_code-requires c = search (plan_place, rules)

pub returns : goal.returns
returns c = record { value = search coded; judges = search (judge_promise, rules) }
