use mathlib.Core.Path.{◌≡◌}
use mathlib.Core.Bool.{false}
use Prim.Native.Nat.{ℕ, ◌<◌}
use Rattle.nets.specs.Nets.{flow_in}
use Rattle.rounds.specs.Reading.{meets_equal}
use Rattle.rounds.proofs.reads_own.Given as goal

abbrev pub invariant-loop-b : goal.invariant-loop-b
invariant-loop-b l = (k : ℕ) → k < l.b → meets_equal (flow_in l.set.net.now l.a) (flow_in l.set.net.now k) ≡ false
