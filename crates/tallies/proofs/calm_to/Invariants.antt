use Prim.Native.Nat.{◌<◌}
use mathlib.Core.Path.{◌≡◌}
use lib.ListN.{length}
use Rattle.tallies.specs.Ceilings.{CalmTo}
use Rattle.tallies.proofs.calm_to.Given as goal

abbrev pub invariant-loop-p : goal.invariant-loop-p
invariant-loop-p l = (0 < l.calm) × CalmTo l.e l.best l.p l.u l.n l.calm × (length l.tally ≡ length l.initial.tally)
