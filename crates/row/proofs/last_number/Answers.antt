use Rattle.row.proofs.Arrays.{last_none, last_at}
use Rattle.flows.proofs.Arrays.{length_of-map}
use Rattle.row.proofs.last_number.Goals as goal

pub returns-then-n-eq0 : goal.returns-then-n-eq0
returns-then-n-eq0 c = search last_none

pub returns : goal.returns
returns c = search (last_at, length_of-map)
