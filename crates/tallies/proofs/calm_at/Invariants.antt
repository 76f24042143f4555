use Rattle.tallies.proofs.Calm.{Calming}
use Rattle.tallies.proofs.calm_at.Given as goal

abbrev pub invariant-loop-i : goal.invariant-loop-i
invariant-loop-i l = Calming l.e l.best l.p l.u l.limit l.sum l.i
