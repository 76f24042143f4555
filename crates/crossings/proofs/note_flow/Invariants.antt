use Prim.Native.Nat.{ℕ, ◌<◌}
use Rattle.least.specs.Lists.{Ahead}
use Rattle.crossings.specs.Pairs.{pair_at, PairIs}
use Rattle.crossings.proofs.note_flow.Given as goal

abbrev pub invariant-loop-b : goal.invariant-loop-b
invariant-loop-b l = Ahead (pair_at l.net l.a 0) l.initial.pairs l.pairs × ((j : ℕ) → j < l.b → PairIs l.net l.pairs l.a j)
