-- What the host's functions promise: RULES, host calls.
use Rattle.std.specs.Prelude.{ℕ, ◌+◌, ◌*◌, ◌/◌, ◌%◌, ◌≤◌, ◌<◌, ◌≡◌, ◌⊎◌, Result, Ok, Err, length}
use mathlib.Core.List.{List, Memᴰ}
use Rattle.rules.specs.Formula.{Arrivals}
use Rattle.rules.specs.Meaning.{IsBound, LeastSettled}
use Rattle.flows.specs.declared.Flow.{Flow}
use Rattle.flows.specs.declared.Refusal.{Refusal}
use Rattle.flows.specs.Refusals.{number_of, flow_named, place_in}
use Rattle.flows.specs.Lists.{flow_of, table_net}
use Rattle.flows.specs.WellFormed.{Exactly}
use Rattle.records.specs.declared.Line.{Line}
use Rattle.lines.specs.declared.Report.{Report}
use Rattle.lines.specs.Reports.{lines_in}
use Rattle.lines.specs.Reading.{read_report}
use Rattle.lines.specs.Writing.{report_written}
use Rattle.lines.specs.Demands.{size}
use Rattle.table.specs.Demands.{Present, Unused}
use Rattle.plans.specs.Plans.{plan_answer}
use Rattle.reports.specs.Reports.{table_lines, table_report}
use Rattle.reports.specs.Demands.{TableReported}
use Rattle.host.specs.Host.{plan_code}

-- the number and the flow of an outcome's refusal; 0 where there is none
abbrev pub number_in : Result (Unit {0}) Refusal → ℕ
number_in (Ok x) = 0
number_in (Err r) = number_of r.cause

abbrev pub flow_in : Result (Unit {0}) Refusal → ℕ
flow_in (Ok x) = 0
flow_in (Err r) = flow_named r.cause

-- 0 exactly for an outcome without a refusal; otherwise number, flow and place can be told from it
pub record Tells (o : Result (Unit {0}) Refusal) (r : ℕ) : Type 0 where
  pub accepted : Exactly (r ≡ 0) (o ≡ Ok tt)
  pub number : r % 256 ≡ number_in o
  pub flow : r / 256 % 256 ≡ flow_in o
  pub place : r / 65536 ≡ place_in o

-- of a plan: whether it is accepted
abbrev pub Judges : List ℕ → ℕ → Type 0
Judges b r = Tells (plan_answer b).outcome r

-- 0 exactly if the plan is refused or lacks the flow; otherwise the flow's bound
pub record Bounds (b : List ℕ) (number r : ℕ) : Type 0 where
  pub zero : Exactly (r ≡ 0) (((plan_answer b).outcome ≡ Ok tt → ⊥) ⊎ Unused (plan_answer b).table number)
  pub arrivals : Arrivals
  pub least : LeastSettled (table_net (plan_answer b).table) arrivals
  pub bound : (f : Flow) → Present (plan_answer b).table f → f.number ≡ number → IsBound (table_net (plan_answer b).table) (flow_of f) arrivals r

-- ---- reports
abbrev pub report_in : List ℕ → Report
report_in b = table_report (plan_answer b).table

-- the refusal of a plan and a buffer as it was; else what writing the table's report leaves, and 13, or 256 times the length. A multiple of 256 exactly if it was written
pub record Writes (b old : List ℕ) (r : ℕ) (new : List ℕ) : Type 0 where
  pub refused : ((plan_answer b).outcome ≡ Ok tt → ⊥) → (r ≡ plan_code b) × (new ≡ old)
  pub short : (plan_answer b).outcome ≡ Ok tt → length old < size (report_in b) → r ≡ 13
  pub long : (plan_answer b).outcome ≡ Ok tt → size (report_in b) ≤ length old → r ≡ 256 * size (report_in b)
  pub report : (plan_answer b).outcome ≡ Ok tt → TableReported (plan_answer b).table old (report_written (length old) (length (table_lines (plan_answer b).table))) new
  pub told : Exactly (r % 256 ≡ 0) (((plan_answer b).outcome ≡ Ok tt) × (size (report_in b) ≤ length old))

-- whether it is read
abbrev pub Checks : List ℕ → ℕ → Type 0
Checks b r = Tells (read_report b).outcome r

-- a line of the report that is read
abbrev pub Listed : List ℕ → Line → Type 0
Listed b l = Memᴰ l (lines_in (read_report b).report)

-- 0 exactly if the report is refused, lacks the flow, or there is no such figure; otherwise one more than it
pub record Shows (b : List ℕ) (number figure r : ℕ) : Type 0 where
  pub zero : Exactly (r ≡ 0) (((read_report b).outcome ≡ Ok tt → ⊥) ⊎ (((l : Line) → Listed b l → l.number ≡ number → ⊥) ⊎ ((figure ≡ 0) ⊎ (3 < figure))))
  pub bound : (l : Line) → Listed b l → l.number ≡ number → figure ≡ 1 → r ≡ l.figures.bound + 1
  pub jitter : (l : Line) → Listed b l → l.number ≡ number → figure ≡ 2 → r ≡ l.figures.jitter + 1
  pub busy : (l : Line) → Listed b l → l.number ≡ number → figure ≡ 3 → r ≡ l.figures.busy + 1
