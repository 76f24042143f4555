-- The report of a table. RULES, the report.
use Rattle.std.specs.Prelude.{List, [], ◌∷◌}
use Rattle.flows.specs.declared.Flow.{Flow}
use Rattle.flows.specs.declared.Figures.{Figures}
use Rattle.flows.specs.declared.Table.{Table}
use Rattle.flows.specs.Lists.{held}
use Rattle.records.specs.declared.Line.{Line}
use Rattle.lines.specs.declared.Report.{Report}
use Rattle.lines.specs.Reports.{report_of}

-- each flow's number with the figures at its place
unfoldable pub lines_from : List Flow → List Figures → List Line
lines_from [] gs = []
lines_from (f ∷ fs) [] = []
lines_from (f ∷ fs) (g ∷ gs) = record { number = f.number; figures = g } ∷ lines_from fs gs

abbrev pub table_lines : Table → List Line
table_lines t = lines_from (held t.row) t.figures

abbrev pub table_report : Table → Report
table_report t = report_of (table_lines t)
