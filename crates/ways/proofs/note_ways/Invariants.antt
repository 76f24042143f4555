use mathlib.Core.Path.{◌≡◌}
use Prim.Native.Nat.{ℕ, ◌<◌}
use lib.ListN.{length}
use Rattle.nets.specs.Nets.{length_in}
use Rattle.ways.specs.Ways.{PlacesAre}
use Rattle.ways.proofs.note_ways.Given as goal

abbrev pub invariant-loop-a : goal.invariant-loop-a
invariant-loop-a l = (length l.ways ≡ length l.initial.ways) × ((b : ℕ) → b < l.a → PlacesAre l.set.net.now l.ways b (length_in l.set.net.now b))
