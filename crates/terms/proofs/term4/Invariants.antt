use mathlib.Core.Path.{◌≡◌}
use Prim.Native.Nat.{◌*◌, ◌≤◌}
use Rattle.least.specs.Fold.{sum_to}
use Rattle.terms.specs.Whole.{term4_by}
use Rattle.terms.proofs.term4.Given as goal

abbrev pub invariant-loop-k : goal.invariant-loop-k
invariant-loop-k l = (l.sum ≤ 65535 * l.k) × (l.sum ≡ sum_to l.k (term4_by l.set.net.now l.a l.p l.s))
