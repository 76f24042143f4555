use mathlib.Core.Path.{◌≡◌}
use lib.ListN.{drop}
use Rattle.flows.specs.Lists.{hops_of, unused_of}
use Rattle.flows.specs.Tests.{every, hop_zero}
use Rattle.flows.proofs.unused_zero.Given as goal

abbrev pub invariant-loop-k : goal.invariant-loop-k
invariant-loop-k l = every hop_zero (drop l.k (hops_of l.f.nodes l.f.costs)) ≡ every hop_zero (unused_of l.f)
