use mathlib.Core.Path.{◌≡◌}
use Prim.Native.Nat.{◌-◌}
use Rattle.blocks.specs.Sheet.{block_at, entries_in}
use Rattle.steps.proofs.Counting.{Counted}
use Rattle.steps.proofs.count_steps.Given as goal

abbrev pub invariant-loop-q : goal.invariant-loop-q
invariant-loop-q l = (l.block ≡ block_at l.e (l.m - 1)) × (l.n ≡ entries_in l.e (l.m - 1)) × Counted l.e (l.m - 1) l.x l.q l.sum
