use Rattle.drawing.proofs.Drawing.{PathTo}
use lib.ListN.{length}
use Prim.Native.Nat.{◌+◌, ◌≤◌}
use Rattle.drawing.proofs.draw.Given as goal

abbrev pub invariant-loop-k : goal.invariant-loop-k
invariant-loop-k l = (l.at + 22 ≤ length l.net) × PathTo l.f l.at l.initial.net l.net l.k
