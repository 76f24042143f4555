use borrow.Author.Rules.{rules}
use Rattle.lines.proofs.Steps.{report_listed, report_refused}
use Rattle.lines.proofs.Promises.{read_promise}
use Rattle.lines.proofs.read.Goals as goal

pub returns-in-Ok-clause-report_read : goal.returns-in-Ok-clause-report_read
returns-in-Ok-clause-report_read c = search (read_promise, report_listed, rules)

pub returns-in-Err-clause-report_read : goal.returns-in-Err-clause-report_read
returns-in-Err-clause-report_read c = search (read_promise, report_refused, rules)
