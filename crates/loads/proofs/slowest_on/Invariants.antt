use mathlib.Core.Path.{◌≡◌}
use Prim.Native.Nat.{◌≤◌}
use Rattle.least.specs.Fold.{max_to}
use Rattle.crossings.specs.Pairs.{cost_on}
use Rattle.loads.proofs.slowest_on.Given as goal

abbrev pub invariant-loop-k : goal.invariant-loop-k
invariant-loop-k l = (l.most ≤ 65535) × (l.most ≡ max_to l.k (cost_on l.set.net.now l.a l.b))
