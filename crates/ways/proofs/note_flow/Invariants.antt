use mathlib.Core.Path.{◌≡◌}
use Prim.Native.Nat.{◌*◌, ◌≤◌}
use Rattle.terms.specs.Whole.{smin_over, way_over, term5_over}
use Rattle.ways.proofs.Noting.{Going}
use Rattle.ways.proofs.note_flow.Given as goal

abbrev pub invariant-loop-k : goal.invariant-loop-k
invariant-loop-k l = Going l.set.net.now l.initial.ways l.ways l.a l.k
    × (l.smin ≤ 131070 * l.k)
    × (l.smin ≡ smin_over l.set.net.now l.a l.k)
    × (l.way ≤ 131070 * l.k)
    × (l.way ≡ way_over l.set.net.now l.a l.k)
    × (l.term5 ≤ 65535 * l.k)
    × (l.term5 ≡ term5_over l.set.net.now l.a l.k)
