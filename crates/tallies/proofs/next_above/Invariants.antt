use Prim.Native.Nat.{◌-◌, ◌≤◌}
use mathlib.Core.Path.{◌≡◌}
use lib.ListN.{length}
use Rattle.tallies.proofs.Calm.{CalmFrom}
use Rattle.tallies.proofs.next_above.Given as goal

abbrev pub invariant-loop-u : goal.invariant-loop-u
invariant-loop-u l = (l.u ≤ l.end) × CalmFrom l.e l.best l.m l.from l.u × (length l.tally ≡ length l.initial.tally)

abbrev pub decreases-loop-u : goal.decreases-loop-u
decreases-loop-u l = l.end - l.u
