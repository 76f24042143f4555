use mathlib.Core.Path.{◌≡◌}
use Prim.Native.Nat.{ℕ, ◌<◌}
use Rattle.least.specs.Lists.{values}
use Rattle.rules.specs.Valid.{Valid}
use Rattle.rules.specs.Judge.{busy_length}
use Rattle.nets.specs.Nets.{flow_in, net_in}
use Rattle.findings.proofs.note_busies.Given as goal

abbrev pub invariant-loop-a : goal.invariant-loop-a
invariant-loop-a l = Valid (net_in l.set.net.now) → (k : ℕ) → k < l.a → values l.busies k ≡ busy_length (net_in l.set.net.now) (flow_in l.set.net.now k)
