use Rattle.reports.proofs.Lines.{more, done}
use Rattle.reports.proofs.Promises.{of_promise}
use Rattle.reports.proofs.report_of.Goals as goal

pub loop-k-preserved : goal.loop-k-preserved
loop-k-preserved c = search more

pub returns : goal.returns
returns c = record { value = search done; in_order = search (of_promise, done) }
