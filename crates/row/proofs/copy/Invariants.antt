use Prim.Native.Nat.{◌≤◌, ◌-◌, ◌+◌}
use mathlib.Core.Path.{◌≡◌}
use mathlib.Core.List.{List, ◌++◌}
use lib.ListN.{take, drop}
use Rattle.flows.specs.Lists.{row_of}
use Rattle.flows.specs.declared.Flow.{Flow}
use Rattle.row.proofs.copy.Given as goal

abbrev pub invariant-loop-k : goal.invariant-loop-k
invariant-loop-k l = (l.k - l.a ≤ l.b - l.a) × (l.to.count ≡ l.initial.to.count + (l.k - l.a)) × ((fs : List Flow) → l.initial.to ≡ row_of fs → l.to ≡ row_of (fs ++ take (l.k - l.a) (drop l.a l.row.flows)))
