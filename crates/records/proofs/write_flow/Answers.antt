use borrow.Author.Rules.{length_unmapped, rules}
use Rattle.records.proofs.Writing.{length-flow, flow-stored}
use Rattle.records.proofs.write_flow.Goals as goal

pub returns : goal.returns
returns c = record { f_len = search (length-flow, length_unmapped); body_after = search (rules, flow-stored, length_unmapped) }
