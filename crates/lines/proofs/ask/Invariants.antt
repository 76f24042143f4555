use mathlib.Core.Path.{◌≡◌}
use lib.ListN.{drop}
use Rattle.lines.specs.Reports.{asked_in}
use Rattle.lines.proofs.ask.Given as goal

abbrev pub invariant-loop-line : goal.invariant-loop-line
invariant-loop-line l = asked_in l.line-items l.number ≡ asked_in (drop l.line-index l.line-items) l.number
