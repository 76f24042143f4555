use mathlib.Core.Path.{◌≡◌}
use Prim.Native.Nat.{◌≤◌, max}
use Rattle.least.specs.Fold.{max_to}
use Rattle.terms.specs.Whole.{lower_by}
use Rattle.terms.proofs.lower_less_one.Given as goal

abbrev pub invariant-loop-b : goal.invariant-loop-b
invariant-loop-b l = (l.most ≤ 65535) × (l.most ≡ max 1 (max_to l.b (lower_by l.set.net.now l.a l.k)))
