use Rattle.settle.specs.Turns.{Room, left}
use Rattle.settle.proofs.Rest.{Settling}
use Rattle.settle.proofs.settle.Given as goal

abbrev pub invariant-loop-chosen : goal.invariant-loop-chosen
invariant-loop-chosen l = record {
  settling : Settling l.set.net.now l.busies l.replies l.marks l.chosen;
  room : Room l.set.net.now l.busies l.replies l.marks l.sheet l.slots l.steps l.best;
}

abbrev pub decreases-loop-chosen : goal.decreases-loop-chosen
decreases-loop-chosen l = left l.set.net.now l.replies l.marks
