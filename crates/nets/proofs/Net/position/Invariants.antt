use mathlib.Core.Path.{◌≡◌}
use Prim.Native.Nat.{◌+◌}
use lib.ListN.{drop}
use Rattle.nets.specs.Nets.{path_in, position_of}
use Rattle.nets.proofs.Net.position.Given as goal

abbrev pub invariant-loop-k : goal.invariant-loop-k
invariant-loop-k l = l.k + position_of l.h (drop l.k (path_in l.self l.b)) ≡ position_of l.h (path_in l.self l.b)
