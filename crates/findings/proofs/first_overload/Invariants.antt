use Rattle.findings.specs.Findings.{overloaded, Clear}
use Rattle.findings.proofs.first_overload.Given as goal

abbrev pub invariant-loop-k : goal.invariant-loop-k
invariant-loop-k l = Clear (overloaded l.busies) l.k
