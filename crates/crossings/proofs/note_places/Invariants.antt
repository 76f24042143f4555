use mathlib.Core.Path.{◌≡◌}
use Prim.Native.Nat.{ℕ, ◌+◌, ◌<◌}
use Rattle.least.specs.Lists.{values, Ahead}
use Rattle.crossings.specs.Pairs.{place_on}
use Rattle.crossings.proofs.note_places.Given as goal

abbrev pub invariant-loop-k : goal.invariant-loop-k
invariant-loop-k l = Ahead l.at l.initial.pairs l.pairs × ((j : ℕ) → j < l.k → values l.pairs (l.at + j) ≡ place_on l.net l.a l.b j)
