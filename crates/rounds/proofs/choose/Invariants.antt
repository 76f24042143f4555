use Rattle.rounds.specs.Rounds.{ChosenIs}
use Rattle.rounds.proofs.choose.Given as goal

abbrev pub invariant-loop-b : goal.invariant-loop-b
invariant-loop-b l = ChosenIs l.marks l.b l.chosen
