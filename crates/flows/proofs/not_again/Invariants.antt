use mathlib.Core.Path.{◌≡◌}
use lib.ListN.{drop}
use Rattle.flows.specs.Tests.{new_to, nodes_of}
use Rattle.flows.proofs.not_again.Given as goal

abbrev pub invariant-loop-k : goal.invariant-loop-k
invariant-loop-k l = new_to (drop l.k (nodes_of l.f)) l.node ≡ new_to (drop l.initial.k (nodes_of l.f)) l.node
