use mathlib.Core.Path.{◌≡◌}
use lib.ListN.{drop}
use Rattle.flows.specs.Tests.{distinct, nodes_of}
use Rattle.flows.proofs.nodes_differ.Given as goal

abbrev pub invariant-loop-i : goal.invariant-loop-i
invariant-loop-i l = distinct (drop l.i (nodes_of l.f)) ≡ distinct (nodes_of l.f)
