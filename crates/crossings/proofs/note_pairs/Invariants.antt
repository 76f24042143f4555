use mathlib.Core.Path.{◌≡◌}
use Prim.Native.Nat.{ℕ, ◌<◌}
use lib.ListN.{length}
use Rattle.nets.specs.Nets.{count_in}
use Rattle.crossings.specs.Pairs.{PairIs}
use Rattle.crossings.proofs.note_pairs.Given as goal

abbrev pub invariant-loop-a : goal.invariant-loop-a
invariant-loop-a l = (length l.pairs ≡ length l.initial.pairs) × ((i b : ℕ) → i < l.a → b < count_in l.net → PairIs l.net l.pairs i b)
