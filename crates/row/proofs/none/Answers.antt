use borrow.Author.Rules.{rules}
use Rattle.row.proofs.Arrays.{none_row}
use Rattle.row.proofs.none.Goals as goal

pub returns : goal.returns
returns c = record { count_value = search rules; value = search none_row }
