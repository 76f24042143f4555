use Rattle.rounds.specs.Rounds.{RaisedIs}
use Rattle.rounds.proofs.raise.Given as goal

abbrev pub invariant-loop-k : goal.invariant-loop-k
invariant-loop-k l = RaisedIs l.initial.replies l.best l.at l.k l.replies l.rose
