use Rattle.drawing.proofs.Drawing.{Pictured}
use Rattle.drawing.proofs.picture.Given as goal

abbrev pub invariant-loop-a : goal.invariant-loop-a
invariant-loop-a l = Pictured l.row l.a l.net
