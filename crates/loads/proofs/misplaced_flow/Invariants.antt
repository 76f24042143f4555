use mathlib.Core.Path.{◌≡◌}
use mathlib.Core.Bool.{false}
use Prim.Native.Nat.{ℕ, ◌<◌}
use Rattle.loads.specs.Load.{strays_in}
use Rattle.loads.proofs.misplaced_flow.Given as goal

abbrev pub invariant-loop-b : goal.invariant-loop-b
invariant-loop-b l = ((k : ℕ) → k < l.b → strays_in l.set.net.now l.a k ≡ false)
