use Rattle.host.proofs.Reports.{far_figure, figured}
use Rattle.host.proofs.ReportPromises.{figure_promise}
use borrow.Author.Rules.{rules}
use Rattle.host.proofs.kezhuvanam_report_figure.Goals as goal

pub returns-then-number-gt255 : goal.returns-then-number-gt255
returns-then-number-gt255 c = record { value = search (far_figure, rules); shows = search (figure_promise, far_figure, rules) }

pub returns : goal.returns
returns c = record { value = search figured; shows = search (figure_promise, figured, rules) }
