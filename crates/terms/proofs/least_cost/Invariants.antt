use mathlib.Core.Path.{◌≡◌}
use Prim.Native.Nat.{◌≤◌}
use Rattle.least.specs.Fold.{min_to}
use Rattle.nets.specs.Nets.{hop_in}
use Rattle.terms.specs.Whole.{least_by}
use Rattle.terms.proofs.least_cost.Given as goal

abbrev pub invariant-loop-b : goal.invariant-loop-b
invariant-loop-b l = (l.cost ≤ 65535) × (l.cost ≡ min_to (hop_in l.set.net.now l.a l.k).cost l.b (least_by l.set.net.now l.a l.k))
