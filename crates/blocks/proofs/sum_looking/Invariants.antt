use mathlib.Core.Path.{◌≡◌}
use Prim.Native.Nat.{◌+◌, ◌*◌, ◌<◌}
use Rattle.least.specs.Lists.{values}
use Rattle.blocks.specs.Sheet.{block_at, entries_in}
use Rattle.blocks.proofs.Looks.{look_to}
use Rattle.blocks.proofs.sum_looking.Given as goal

abbrev pub invariant-loop-q : goal.invariant-loop-q
invariant-loop-q l = (l.at ≡ block_at l.e l.p) × (l.n ≡ entries_in l.e l.p) × (l.sum ≡ l.kept + look_to l.e l.p (values l.v) l.q) × (l.sum < 576460752320200704 + 562949953421312 * l.q)
