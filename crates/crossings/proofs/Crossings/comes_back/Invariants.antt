use mathlib.Core.Path.{◌≡◌}
use lib.ListN.{drop}
use Rattle.rules.specs.Judge as rules
use Rattle.nets.specs.Nets.{path_in}
use Rattle.crossings.proofs.Crossings.comes_back.Given as goal

abbrev pub invariant-loop-k : goal.invariant-loop-k
invariant-loop-k l = rules.returns (path_in l.self.net.now l.a) (drop l.k (path_in l.self.net.now l.b)) ≡ rules.returns (path_in l.self.net.now l.a) (path_in l.self.net.now l.b)
