-- The host's numbers: a refusal, a flow's bound, a report's length, a figure. RULES, host calls.
use Rattle.std.specs.Prelude.{ℕ, ◌+◌, ◌*◌, cond, Result, Ok, Err, is_ok, List, length, eqb}
use Rattle.flows.specs.declared.Answer.{Answer}
use Rattle.flows.specs.declared.Figures.{Figures}
use Rattle.flows.specs.declared.Refusal.{Refusal}
use Rattle.flows.specs.Refusals.{number_of, flow_named}
use Rattle.lines.specs.Reports.{lines_in, asked_in}
use Rattle.lines.specs.Reading.{read_report}
use Rattle.lines.specs.Writing.{report_written, report_after}
use Rattle.table.specs.Calls.{Asked, asked_for}
use Rattle.plans.specs.Plans.{plan_answer}
use Rattle.reports.specs.Reports.{table_lines}

-- a refusal in one number
abbrev pub code_of : Refusal → ℕ
code_of r = number_of r.cause + 256 * flow_named r.cause + 65536 * r.place

-- the refusal, or this number
abbrev pub code_unless : Result (Unit {0}) Refusal → ℕ → ℕ
code_unless (Ok x) next = next
code_unless (Err r) next = code_of r

-- 0 for what was not refused
abbrev pub outcome_code : Result (Unit {0}) Refusal → ℕ
outcome_code o = code_unless o 0

-- the bound, or 0 for a flow that is not there
unfoldable pub bound_of : Asked → ℕ
bound_of (Ok figures) = figures.bound
bound_of (Err refusal) = 0

abbrev pub bound_in : Answer → ℕ → ℕ
bound_in a number = bound_of (asked_for a.table number)

unfoldable pub plan_code : List ℕ → ℕ
plan_code b = outcome_code (plan_answer b).outcome

-- a refused plan has a table without flows
unfoldable pub plan_bound : List ℕ → ℕ → ℕ
plan_bound b number = bound_in (plan_answer b) number

-- ---- reports
-- a multiple of 256, which no refusal is
abbrev pub written_code : Result ℕ Refusal → ℕ
written_code (Ok n) = 256 * n
written_code (Err refusal) = code_of refusal

-- of a plan, and the space for its report; then the buffer that had that space
unfoldable pub write_code : List ℕ → ℕ → ℕ
write_code b space =
    code_unless (plan_answer b).outcome (written_code (report_written space (length (table_lines (plan_answer b).table))))

unfoldable pub write_buffer : List ℕ → List ℕ → List ℕ
write_buffer b old = cond (is_ok (plan_answer b).outcome) (report_after (table_lines (plan_answer b).table) old) old

unfoldable pub report_code : List ℕ → ℕ
report_code b = outcome_code (read_report b).outcome

-- one more than the figure, since a jitter can be 0
unfoldable pub figure_of : Figures → ℕ → ℕ
figure_of g figure = cond (eqb figure 1) (g.bound + 1) (cond (eqb figure 2) (g.jitter + 1) (cond (eqb figure 3) (g.busy + 1) 0))

abbrev pub figure_in : Asked → ℕ → ℕ
figure_in (Ok figures) figure = figure_of figures figure
figure_in (Err refusal) figure = 0

-- a refused report has no lines
unfoldable pub report_figure : List ℕ → ℕ → ℕ → ℕ
report_figure b number figure = figure_in (asked_in (lines_in (read_report b).report) number) figure
