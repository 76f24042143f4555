use Rattle.host.proofs.Reports.{report_fits, report_coded}
use Rattle.host.proofs.ReportPromises.{check_promise}
use borrow.Author.Rules.{rules}
use Rattle.host.proofs.kezhuvanam_report_check.Goals as goal

pub outcome_code-requires : goal.outcome_code-requires
outcome_code-requires c = search (report_fits, rules)

pub returns : goal.returns
returns c = record { value = search (report_coded, rules); checks = search (check_promise, report_coded, rules) }
