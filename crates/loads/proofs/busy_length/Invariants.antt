use Prim.Native.Nat.{◌-◌, ◌≤◌}
use Rattle.least.specs.Lists.{values}
use Rattle.loads.specs.Load.{next_length}
use Rattle.loads.proofs.Climb.{Climbs}
use Rattle.loads.proofs.busy_length.Given as goal

abbrev pub invariant-loop-x : goal.invariant-loop-x
invariant-loop-x l = (l.x ≤ 65536) × Climbs (next_length l.set.net.now (values l.weights)) l.x

abbrev pub decreases-loop-x : goal.decreases-loop-x
decreases-loop-x l = 65536 - l.x
