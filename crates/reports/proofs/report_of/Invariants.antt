use mathlib.Core.Path.{◌≡◌}
use lib.ListN.{take}
use Rattle.flows.specs.Lists.{held}
use Rattle.lines.specs.Reports.{report_of}
use Rattle.reports.specs.Reports.{lines_from}
use Rattle.reports.proofs.report_of.Given as goal

abbrev pub invariant-loop-k : goal.invariant-loop-k
invariant-loop-k l = l.report ≡ report_of (take l.k (lines_from (held l.t.row) l.t.figures))
