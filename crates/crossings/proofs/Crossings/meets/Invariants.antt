use mathlib.Core.Path.{◌≡◌}
use lib.ListN.{drop}
use Rattle.rules.specs.Formula.{crosses}
use Rattle.nets.specs.Nets.{path_in}
use Rattle.crossings.proofs.Crossings.meets.Given as goal

abbrev pub invariant-loop-k : goal.invariant-loop-k
invariant-loop-k l = crosses (path_in l.self.net.now l.a) (drop l.k (path_in l.self.net.now l.b)) ≡ crosses (path_in l.self.net.now l.a) (drop l.from (path_in l.self.net.now l.b))
