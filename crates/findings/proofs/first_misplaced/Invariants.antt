use Rattle.findings.specs.Findings.{crossed, Clear}
use Rattle.findings.proofs.first_misplaced.Given as goal

abbrev pub invariant-loop-k : goal.invariant-loop-k
invariant-loop-k l = Clear (crossed l.set.net.now) l.k
