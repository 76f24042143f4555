use Rattle.host.proofs.Reports.{length_fits, place_fits, wrote-length, wrote_refusal}
use borrow.Author.Rules.{rules}
use Rattle.host.proofs.written_code.Goals as goal

pub overflow_mul-result : goal.overflow_mul-result
overflow_mul-result c = search (length_fits, rules)

pub code-requires : goal.code-requires
code-requires c = search place_fits

pub returns-in-Ok : goal.returns-in-Ok
returns-in-Ok c = search wrote-length

pub returns-in-Err : goal.returns-in-Err
returns-in-Err c = search wrote_refusal
