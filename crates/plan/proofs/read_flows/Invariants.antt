use Prim.Native.Nat.{◌-◌}
use mathlib.Core.Path.{◌≡◌}
use lib.ListN.{length}
use Rattle.flows.specs.Lists.{most_flows, held, row_of}
use Rattle.plan.specs.Reading.{read_flows, read_after_links}
use Rattle.plan.proofs.read_flows.Given as goal

abbrev pub invariant-loop-kind : goal.invariant-loop-kind
invariant-loop-kind l = (l.row ≡ row_of (held l.row)) × (read_flows (most_flows - length (held l.row)) l.lmin l.lmax (held l.row) l.plan l.at ≡ read_after_links l.lmin l.lmax l.plan)

abbrev pub decreases-loop-kind : goal.decreases-loop-kind
decreases-loop-kind l = length l.plan - l.at
