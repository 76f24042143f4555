use mathlib.Core.Path.{◌≡◌}
use Prim.Native.Nat.{◌*◌, ◌≤◌}
use Rattle.least.specs.Fold.{sum_to}
use Rattle.least.specs.Lists.{values}
use Rattle.loads.specs.Load.{packets_in}
use Rattle.loads.proofs.load.Given as goal

abbrev pub invariant-loop-b : goal.invariant-loop-b
invariant-loop-b l = (l.sum ≤ 4294901760 * l.b) × (l.sum ≡ sum_to l.b (packets_in l.net (values l.weights) l.x))
