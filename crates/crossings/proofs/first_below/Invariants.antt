use Prim.Native.Nat.{ℕ, ◌+◌, ◌≤◌, ◌<◌}
use Rattle.least.specs.Lists.{values}
use Rattle.crossings.proofs.first_below.Given as goal

abbrev pub invariant-loop-k : goal.invariant-loop-k
invariant-loop-k l = ((j : ℕ) → j < l.k → l.bound ≤ values l.pairs (l.at + j))
