use Rattle.starts.proofs.Climb.{Climbs}
use Rattle.starts.specs.Begins.{Kept}
use Rattle.blocks.specs.Sheet.{added}
use Rattle.starts.specs.Runs.{most_time}
use Prim.Native.Nat.{◌+◌, ◌-◌, ◌<◌}
use mathlib.Core.Path.{◌≡◌}
use Rattle.starts.proofs.start_at.Given as goal

abbrev pub invariant-loop-w : goal.invariant-loop-w
invariant-loop-w l = (l.add ≡ added l.e l.p) × (l.last ≡ most_time + l.u) × Kept l.initial.v l.v × Climbs l.e l.p l.u l.initial.v l.from l.w × (l.w < 2305843009213693952)

abbrev pub decreases-loop-w : goal.decreases-loop-w
decreases-loop-w l = l.last + 1 - l.w
