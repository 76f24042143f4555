use mathlib.Core.Path.{◌≡◌}
use Prim.Native.Nat.{◌+◌, ◌-◌, ◌<◌}
use lib.ListN.{length}
use Rattle.least.specs.Lists.{Inside}
use Rattle.starts.specs.Kept.{KeptTo}
use Rattle.starts.proofs.Tries.{Tried}
use Rattle.starts.proofs.responses.Given as goal

abbrev pub invariant-loop-u : goal.invariant-loop-u
invariant-loop-u l = Tried l.e l.m l.from l.end l.initial.best l.slots l.best l.u × (length l.slots ≡ length l.initial.slots) × Inside 0 (l.m + l.m) l.initial.best l.best × (length l.steps ≡ length l.initial.steps) × (l.from < l.u → KeptTo l.e l.stride l.end (l.u - 1) l.steps l.m)

abbrev pub decreases-loop-u : goal.decreases-loop-u
decreases-loop-u l = l.end - l.u
