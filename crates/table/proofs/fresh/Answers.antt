use Rattle.table.proofs.Ways.{fresh_refused, fresh_accepted}
use Rattle.table.proofs.Promises.{fresh_promise}
use Rattle.table.proofs.fresh.Goals as goal

pub returns-in-Ok : goal.returns-in-Ok
returns-in-Ok c = record { value = search fresh_accepted; freshly = search (fresh_promise, fresh_accepted) }

pub returns-in-Err : goal.returns-in-Err
returns-in-Err c = record { value = search fresh_refused; freshly = search (fresh_promise, fresh_refused) }
