use Rattle.engine.specs.Firsts.{deadline_at, bound_at}
use Rattle.findings.specs.Findings.{Clear}
use lib.Dec.{ltb}
use Rattle.engine.proofs.first_late.Given as goal

abbrev pub invariant-loop-k : goal.invariant-loop-k
invariant-loop-k l = Clear (λ j. ltb (deadline_at l.row j) (bound_at l.figures j)) l.k
