use Rattle.table.proofs.Ways.{withdraw_absent, withdraw_judged}
use Rattle.table.proofs.Promises.{withdraw_promise}
use Rattle.table.proofs.withdraw.Goals as goal

pub returns-then-is_none : goal.returns-then-is_none
returns-then-is_none c = record { value = search withdraw_absent; withdrawing = search (withdraw_promise, withdraw_absent) }

pub returns : goal.returns
returns c = record { value = search withdraw_judged; withdrawing = search (withdraw_promise, withdraw_judged) }
