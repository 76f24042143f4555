-- What the report of a table promises, from the equations.
use Prim.Native.Nat.{ℕ}
use mathlib.Core.Path.{◌≡◌, refl, sym, ap, ◌∙◌, subst}
use mathlib.Core.List.{List}
use lib.ListN.{length}
use Rattle.flows.specs.declared.Table.{Table}
use Rattle.std.specs.Prelude.{Result}
use Rattle.flows.specs.declared.Refusal.{Refusal}
use Rattle.flows.specs.Lists.{held}
use Rattle.records.specs.declared.Line.{Line}
use Rattle.lines.specs.declared.Report.{Report}
use Rattle.lines.specs.Reports.{lines_in, asked_in}
use Rattle.lines.specs.Writing.{report_written, report_after}
use Rattle.lines.specs.Demands.{InOrder, ReportWritten}
use Rattle.lines.proofs.Arrays.{lines_of}
use Rattle.lines.proofs.Promises as lines
use Rattle.table.specs.Made.{Made}
use Rattle.reports.specs.Reports.{table_lines, table_report}
use Rattle.reports.specs.Demands.{TableReported}
use Rattle.reports.proofs.Made.{long, asks, made_order}
use Rattle.reports.proofs.Lines.{lines-count}

pub of_promise : (t : Table) (r : Report) → r ≡ table_report t → Made t → InOrder r
of_promise t r e m = subst InOrder (sym e) (made_order t m)

module _ (t : Table) (old : List ℕ) (r : Result ℕ Refusal) (new : List ℕ) (report : Report) (e : report ≡ table_report t) where
  same : lines_in report ≡ table_lines t
  same = ap lines_in e ∙ lines_of (table_lines t)

  pub write_answer : r ≡ report_written (length old) (length (lines_in report)) → r ≡ report_written (length old) (length (table_lines t))
  write_answer g = rw same at g

  pub write_buffer_lem : new ≡ report_after (lines_in report) old → new ≡ report_after (table_lines t) old
  write_buffer_lem g = rw same at g

  pub write_promise : (InOrder report → ReportWritten report old r new) → Made t → TableReported t old r new
  write_promise w m = record {
    report = subst (λ (s : Report). ReportWritten s old r new) e (w (subst InOrder (sym e) (made_order t m)));
    count = ap length (lines_of (table_lines t)) ∙ lines-count (held t.row) t.figures (long t m);
    asks = λ number. ap (λ (ls : List Line). asked_in ls number) (lines_of (table_lines t)) ∙ asks t m number;
  }

-- what the equations say of a table that calls made
pub reported : (t : Table) → Made t → (old : List ℕ) → TableReported t old (report_written (length old) (length (table_lines t))) (report_after (table_lines t) old)
reported t m old =
    let e = sym (lines_of (table_lines t)) in
    write_promise t old _ _ (table_report t) refl
    (lines.write_promise (table_report t) old _ _ (ap (λ (ls : List Line). report_written (length old) (length ls)) e) (ap (λ (ls : List Line). report_after ls old) e)) m
