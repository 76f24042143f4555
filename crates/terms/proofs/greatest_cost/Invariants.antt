use mathlib.Core.Path.{◌≡◌}
use Prim.Native.Nat.{◌≤◌, max}
use Rattle.least.specs.Fold.{max_to}
use Rattle.nets.specs.Nets.{hop_in}
use Rattle.terms.specs.Whole.{greatest_by}
use Rattle.terms.proofs.greatest_cost.Given as goal

abbrev pub invariant-loop-b : goal.invariant-loop-b
invariant-loop-b l = (l.most ≤ 65535) × (l.most ≡ max (hop_in l.set.net.now l.a l.k).cost (max_to l.b (greatest_by l.set.net.now l.a l.p l.k)))
