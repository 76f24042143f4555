use mathlib.Core.Path.{◌≡◌}
use lib.ListN.{length}
use Rattle.loads.specs.Load.{Weighed}
use Rattle.loads.proofs.weigh.Given as goal

abbrev pub invariant-loop-b : goal.invariant-loop-b
invariant-loop-b l = (length l.weights ≡ length l.initial.weights) × Weighed l.set.net.now l.weights l.a l.b
