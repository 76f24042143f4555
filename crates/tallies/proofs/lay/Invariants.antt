use Prim.Native.Nat.{◌-◌}
use mathlib.Core.Path.{◌≡◌}
use Rattle.least.specs.Count.{count}
use Rattle.tallies.proofs.Lays.{Laying}
use Rattle.tallies.proofs.lay.Given as goal

abbrev pub invariant-loop-d : goal.invariant-loop-d
invariant-loop-d l = Laying l.a l.b l.t l.w l.initial.tally l.tally l.d × (l.c ≡ count l.a l.b l.t)

abbrev pub decreases-loop-d : goal.decreases-loop-d
decreases-loop-d l = l.n - l.d
