use Rattle.std.proofs.Common.{rules}
use Rattle.flows.proofs.Arrays.{path_capped}
use Rattle.flows.proofs.path_end.Goals as goal

pub returns : goal.returns
returns c = record { value = search (path_capped, rules); upper_bound = search rules }
