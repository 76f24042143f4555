use mathlib.Core.Path.{◌≡◌}
use Prim.Native.Nat.{◌-◌}
use Rattle.blocks.specs.Sheet.{block_at, entries_in}
use Rattle.steps.proofs.Kept.{Entered}
use Rattle.steps.proofs.Sums.{Gained}
use Rattle.steps.proofs.advance_node.Given as goal

abbrev pub invariant-loop-q : goal.invariant-loop-q
invariant-loop-q l = (l.block ≡ block_at l.e l.p) × (l.n ≡ entries_in l.e l.p) × Gained l.e l.p (l.u - 1) l.u l.q l.sum × Entered l.e l.end l.u l.p l.at l.initial.steps l.steps l.next l.q
