use Rattle.engine.specs.Firsts.{FiguresUpTo}
use Rattle.engine.proofs.figures_of.Given as goal

abbrev pub invariant-loop-k : goal.invariant-loop-k
invariant-loop-k l = FiguresUpTo l.row l.lmin l.replies l.busies l.k l.figures
