use Prim.Native.Nat.{◌+◌, ◌*◌, ◌<◌}
use mathlib.Core.Path.{◌≡◌}
use lib.ListN.{length}
use Rattle.least.specs.Lists.{values}
use Rattle.blocks.specs.Sheet.{block_at, entries_in}
use Rattle.tallies.specs.Tallies.{Tallied}
use Rattle.tallies.proofs.Sums.{part_sum}
use Rattle.tallies.proofs.tally_node.Given as goal

abbrev pub invariant-loop-q : goal.invariant-loop-q
invariant-loop-q l = (l.block ≡ block_at l.e l.p) × (l.count ≡ entries_in l.e l.p) × (l.sum ≡ values l.e (block_at l.e l.p) + part_sum l.e l.best l.p l.q l.u) × (l.sum < 16777216 + 2251799813685248 * l.q) × Tallied (λ i. part_sum l.e l.best l.p l.q (l.u + i)) l.n l.tally × (length l.tally ≡ length l.initial.tally)
