use mathlib.Core.Path.{◌≡◌}
use lib.ListN.{drop}
use Rattle.rules.specs.Judge.{meets_again}
use Rattle.nets.specs.Nets.{path_in}
use Rattle.crossings.proofs.Crossings.meets_again.Given as goal

abbrev pub invariant-loop-k : goal.invariant-loop-k
invariant-loop-k l = meets_again (path_in l.self.net.now l.a) (drop l.k (path_in l.self.net.now l.b)) ≡ meets_again (path_in l.self.net.now l.a) (drop l.from (path_in l.self.net.now l.b))
