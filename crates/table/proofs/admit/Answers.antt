use borrow.Author.Rules.{rules}
use Rattle.table.proofs.Ways.{admit_refused, admit_judged}
use Rattle.table.proofs.Promises.{admit_promise}
use Rattle.table.proofs.admit.Goals as goal

pub returns-in-Ok : goal.returns-in-Ok
returns-in-Ok c = record { value = search admit_judged; admitting = search (admit_promise, admit_judged, rules); typed = search rules }

pub returns-in-Err : goal.returns-in-Err
returns-in-Err c = record { value = search admit_refused; admitting = search (admit_promise, admit_refused, rules); typed = search rules }
