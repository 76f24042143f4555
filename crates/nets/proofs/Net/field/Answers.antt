use Rattle.std.proofs.Common.{rules}
use Rattle.nets.specs.Nets.{field_in}
use Rattle.nets.proofs.Net.field.Goals as goal

pub returns-clause-value : goal.returns-clause-value
unfolding field_in
returns-clause-value c = search rules
