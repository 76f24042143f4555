use Prim.Native.Nat.{◌*◌}
use Rattle.starts.proofs.Nodes.{Going}
use mathlib.Core.Path.{◌≡◌}
use Rattle.starts.proofs.instant.Given as goal

abbrev pub invariant-loop-p : goal.invariant-loop-p
invariant-loop-p l = Going l.e l.m l.u l.initial.slots l.initial.best l.slots l.best l.p × (l.at ≡ l.p * l.stride)
