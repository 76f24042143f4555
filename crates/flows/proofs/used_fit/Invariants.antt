use mathlib.Core.Path.{◌≡◌}
use lib.ListN.{drop}
use Rattle.flows.specs.Lists.{path_of}
use Rattle.flows.specs.Tests.{every, hop_fits}
use Rattle.flows.proofs.used_fit.Given as goal

abbrev pub invariant-loop-k : goal.invariant-loop-k
invariant-loop-k l = every hop_fits (drop l.k (path_of l.f)) ≡ every hop_fits (path_of l.f)
