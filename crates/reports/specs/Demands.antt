-- What the report of a table promises: RULES, the report, in words. The equations that callers use stand in Reports.
use Rattle.std.specs.Prelude.{ℕ, Result, ◌≡◌, List, length}
use Rattle.flows.specs.declared.Table.{Table}
use Rattle.flows.specs.declared.Refusal.{Refusal}
use Rattle.flows.specs.Lists.{held}
use Rattle.lines.specs.Reports.{lines_in, asked_in}
use Rattle.lines.specs.Demands.{ReportWritten}
use Rattle.table.specs.Calls.{asked_for}
use Rattle.reports.specs.Reports.{table_report}

-- it is read again as it was written; a line for each flow, and whoever asks it for any number gets what the table gives
pub record TableReported (t : Table) (old : List ℕ) (r : Result ℕ Refusal) (new : List ℕ) : Type 0 where
  pub report : ReportWritten (table_report t) old r new
  pub count : length (lines_in (table_report t)) ≡ length (held t.row)
  pub asks : (number : ℕ) → asked_in (lines_in (table_report t)) number ≡ asked_for t number
