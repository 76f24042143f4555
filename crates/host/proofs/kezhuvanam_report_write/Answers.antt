use Rattle.host.proofs.Numbers.{refusal_fits}
use Rattle.host.proofs.Reports.{refused_code, refused_buffer, written_fits, written_coded, written_buffer}
use Rattle.host.proofs.ReportPromises.{write_promise}
use borrow.Author.Rules.{rules}
use Rattle.host.proofs.kezhuvanam_report_write.Goals as goal

pub code-requires : goal.code-requires
code-requires c = search (refusal_fits, rules)

pub returns-in-Err : goal.returns-in-Err
returns-in-Err c =
    record { value = search refused_code; buffer_after = search refused_buffer; writes = search (write_promise, refused_code, refused_buffer, rules) }

pub written_code-requires : goal.written_code-requires
written_code-requires c = search (written_fits, rules)

pub returns-in-Ok : goal.returns-in-Ok
returns-in-Ok c =
    record { value = search written_coded; buffer_after = search written_buffer; writes = search (write_promise, written_coded, written_buffer, rules) }
