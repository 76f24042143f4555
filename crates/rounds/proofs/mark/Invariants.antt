use Rattle.rounds.specs.Rounds.{MarkedIs}
use Rattle.rounds.proofs.mark.Given as goal

abbrev pub invariant-loop-b : goal.invariant-loop-b
invariant-loop-b l = MarkedIs l.initial.marks l.set.net.now l.a l.b l.marks
