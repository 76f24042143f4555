use mathlib.Core.Path.{◌≡◌}
use Prim.Native.Nat.{ℕ, ◌+◌, ◌*◌, ◌<◌}
use Rattle.least.specs.Lists.{values}
use Rattle.blocks.specs.Sheet.{instant_slot, block_at, entries_in, entry_at}
use Rattle.steps.proofs.Kept.{Entered}
use Rattle.blocks.proofs.Terms.{instant_to}
use Rattle.steps.proofs.begin_node.Given as goal

abbrev pub invariant-loop-q : goal.invariant-loop-q
invariant-loop-q l = (l.block ≡ block_at l.e l.p) × (l.n ≡ entries_in l.e l.p) × (l.sum ≡ values l.e (block_at l.e l.p) + instant_to l.e l.p l.u l.q) × (l.sum < 16777216 + 562949953421312 * l.q) × Entered l.e l.end l.u l.p l.at l.initial.steps l.steps l.next l.q × (l.looks ≡ 0 → (i : ℕ) → i < l.q → values l.e (entry_at l.e l.p i) ≡ instant_slot)
