use Rattle.flows.specs.Lists.{path_of}
use Rattle.rules.specs.Formula.{least}
use Rattle.least.specs.Fold.{sum_of}
use lib.ListN.{drop}
use mathlib.Core.Path.{◌≡◌}
use Prim.Native.Nat.{◌+◌, ◌*◌, ◌≤◌}
use Rattle.engine.proofs.costs.Given as goal

abbrev pub invariant-loop-k : goal.invariant-loop-k
invariant-loop-k l = (l.sum ≤ 65535 * l.k) × (l.sum + sum_of least (drop l.k (path_of l.f)) ≡ sum_of least (path_of l.f))
