-- The calls on a table: what each gives back.
use Rattle.std.specs.Prelude.{ℕ, cond, List, [], get_or, replicate, Option, Some, None, Result, Ok, Err}
use Rattle.flows.specs.declared.Flow.{Flow}
use Rattle.flows.specs.declared.Figures.{Figures}
use Rattle.flows.specs.declared.Row.{Row}
use Rattle.flows.specs.declared.Table.{Table}
use Rattle.flows.specs.declared.Refusal.{Refusal}
use Rattle.flows.specs.declared.Answer.{Answer}
use Rattle.flows.specs.declared.Cause.TheVariants.{Absent}
use Rattle.flows.specs.Refusals.{Ruling, accepted, accepted_by, at_place}
use Rattle.flows.specs.Lists.{most_flows, held, row_of}
use Rattle.flows.specs.Tests.{delay_cause}
use Rattle.row.specs.Rows.{found_in, without, inserted, entry_cause}
use Rattle.engine.specs.Verdicts.{Verdict, ruling_of, figures_in, no_figures, verdict_of}

-- what asking gives
abbrev pub Asked : Type 0
Asked = Result Figures Refusal

unfoldable pub empty_table : ℕ → ℕ → Table
empty_table lmin lmax = record { lmin = lmin; lmax = lmax; row = row_of []; figures = replicate most_flows no_figures }

-- where there is no plan, the place is 0. RULES, tables
unfoldable pub answered : Ruling → Table → Answer
answered r t = record { outcome = at_place r 0; table = t }

-- this answer, or a refusal and the table that goes with it
unfoldable pub unless : Ruling → Table → Answer → Answer
unless r old next = cond (accepted_by r) next (answered r old)

-- refused by 1, it keeps no link delays. RULES, tables
unfoldable pub fresh_answer : ℕ → ℕ → Answer
fresh_answer lmin lmax = unless (delay_cause lmin lmax) (empty_table 0 0) (answered accepted (empty_table lmin lmax))

-- another row of flows and their figures, in the same network
unfoldable pub holding : Table → Row → List Figures → Table
holding t row figures = record { lmin = t.lmin; lmax = t.lmax; row = row; figures = figures }

-- 7 to 10, of the row with the new flow; refused, the table is as it was
unfoldable pub decided : Table → Row → Verdict → Answer
decided t row v = unless (ruling_of v) t (answered accepted (holding t row (figures_in v)))

abbrev pub judged_row : Table → Row → Verdict
judged_row t row = verdict_of t.lmin t.lmax row

-- 2 to 6 before them
unfoldable pub admitted : Table → Flow → Answer
admitted t f =
    unless (entry_cause (held t.row) f) t (let row = inserted t.row f in decided t row (judged_row t row))

-- 11, if no flow has the number
unfoldable pub withdrawn_by : Table → ℕ → Option ℕ → Answer
withdrawn_by t number None = answered (Err Absent) t
withdrawn_by t number (Some place) =
    let row = row_of (without number (held t.row)) in answered accepted (holding t row (figures_in (judged_row t row)))

unfoldable pub withdrawn : Table → ℕ → Answer
withdrawn t number = withdrawn_by t number (found_in (held t.row) number)

-- the three figures, or 11. RULES, tables
unfoldable pub asked_by : Table → Option ℕ → Asked
asked_by t None = Err (record { cause = Absent; place = 0 })
asked_by t (Some place) = Ok (get_or t.figures place no_figures)

unfoldable pub asked_for : Table → ℕ → Asked
asked_for t number = asked_by t (found_in (held t.row) number)
