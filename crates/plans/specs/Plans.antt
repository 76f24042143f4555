-- Sets judged, and whole plans: read, then judged.
use Rattle.std.specs.Prelude.{ℕ, List, Result, Ok, Err}
use Rattle.flows.specs.declared.Figures.{Figures}
use Rattle.flows.specs.declared.Table.{Table}
use Rattle.flows.specs.declared.Answer.{Answer}
use Rattle.flows.specs.declared.Refusal.{Refusal}
use Rattle.plan.specs.declared.FlowSet.{FlowSet}
use Rattle.plan.specs.declared.Reading.{Reading}
use Rattle.plan.specs.Reading.{read_plan}
use Rattle.plan.specs.Writing.{set_bytes}
use Rattle.engine.specs.Verdicts.{Verdict, verdict_of}
use Rattle.table.specs.Calls.{empty_table}

-- no flows and no link delays. RULES, tables
unfoldable pub refused_plan : Refusal → Answer
refused_plan r = record { outcome = Err r; table = empty_table 0 0 }

unfoldable pub accepted_plan : FlowSet → List Figures → Answer
accepted_plan s figures = record {
  outcome = Ok tt;
  table = record { lmin = s.lmin; lmax = s.lmax; row = s.row; figures = figures };
}

-- 7 to 10 are of no one record, so the place is 0. RULES, judging
unfoldable pub decided_by : FlowSet → Verdict → Answer
decided_by s (Ok figures) = accepted_plan s figures
decided_by s (Err cause) = refused_plan (record { cause = cause; place = 0 })

unfoldable pub set_answer : FlowSet → Answer
set_answer s = decided_by s (verdict_of s.lmin s.lmax s.row)

-- records first
unfoldable pub answer_as : Result (Unit {0}) Refusal → FlowSet → Answer
answer_as (Ok x) s = set_answer s
answer_as (Err r) s = refused_plan r

abbrev pub answer_to : Reading → Answer
answer_to r = answer_as r.outcome r.set

unfoldable pub plan_answer : List ℕ → Answer
plan_answer b = answer_to (read_plan b)

-- the set that a table holds, and the bytes of its plan
abbrev pub set_of : Table → FlowSet
set_of t = record { lmin = t.lmin; lmax = t.lmax; row = t.row }

abbrev pub table_bytes : Table → List ℕ
table_bytes t = set_bytes (set_of t)
