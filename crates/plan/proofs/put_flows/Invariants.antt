use lib.ListN.{take}
use Rattle.plan.proofs.Puts.{Flows}
use Rattle.plan.proofs.put_flows.Given as goal

abbrev pub invariant-loop-k : goal.invariant-loop-k
invariant-loop-k l = Flows l.initial.buffer (take l.k l.row.flows) l.buffer
