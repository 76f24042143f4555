use Rattle.reports.proofs.Promises.{write_answer, write_buffer_lem, write_promise}
use Rattle.reports.proofs.write_report.Goals as goal

pub returns : goal.returns
returns c = record { value = search write_answer; buffer_after = search write_buffer_lem; table_reported = search write_promise }
