use borrow.Author.Rules.{rules}
use Rattle.row.proofs.Arrays.{size_capped}
use Rattle.flows.proofs.Arrays.{length_of-map}
use Rattle.row.proofs.size.Goals as goal

pub returns : goal.returns
returns c = record { value = search (size_capped, length_of-map); upper_bound = search rules }
