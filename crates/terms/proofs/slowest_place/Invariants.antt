use mathlib.Core.Path.{◌≡◌}
use Prim.Native.Nat.{◌≤◌}
use Rattle.terms.specs.Whole.{slowest_to}
use Rattle.terms.proofs.slowest_place.Given as goal

abbrev pub invariant-loop-k : goal.invariant-loop-k
invariant-loop-k l = (l.s ≤ l.k) × (l.s ≡ slowest_to l.net l.a l.k)
