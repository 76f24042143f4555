use Prim.Native.Nat.{ℕ, ◌-◌, ◌*◌, ◌≤◌, ◌<◌}
use Rattle.steps.specs.Kept.{KeptAt}
use Rattle.starts.proofs.Kept.{Noded}
use Rattle.starts.proofs.keep.Given as goal

abbrev pub invariant-loop-p : goal.invariant-loop-p
invariant-loop-p l = Noded l.e l.stride l.m l.end l.u l.initial.steps l.steps l.next l.at l.p × (l.from < l.u → (j : ℕ) → l.p ≤ j → j < l.m → KeptAt l.e l.end (l.u - 1) l.steps j (j * l.stride))
