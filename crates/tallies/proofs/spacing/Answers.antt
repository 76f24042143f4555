use Rattle.tallies.proofs.Lays.{count_far}
use native.Mathlib.Omega.{arith}
use Rattle.tallies.proofs.spacing.Goals as goal

pub returns-then-t-eq0-clause-by_index : goal.returns-then-t-eq0-clause-by_index
returns-then-t-eq0-clause-by_index c = λ a b h. count_far c.args.t a b (omega arith) h
