-- A report's array as a list of lines, and what asking it gives. RULES, tables.
use Rattle.flows.specs.declared.Figures.{Figures}
use Rattle.flows.specs.declared.Refusal.{Refusal}
use Rattle.std.specs.Prelude.{Result, Ok, Err, ℕ, ◌+◌, ◌-◌, cond, List, [], ◌∷◌, ◌++◌, length, take, set, replicate, leb, eqb}
use Rattle.flows.specs.declared.Cause.TheVariants.{Absent}
use Rattle.flows.specs.Lists.{most_flows}
use Rattle.records.specs.declared.Line.{Line}
use Rattle.lines.specs.declared.Report.{Report}

abbrev pub no_line : Line
no_line = record { number = 0; figures = record { bound = 0; jitter = 0; busy = 0 } }

-- the lines that a report has, and the report that has these lines: unused places are zero
unfoldable pub lines_in : Report → List Line
lines_in r = take r.count r.lines

unfoldable pub report_of : List Line → Report
report_of ls = record { lines = ls ++ replicate (most_flows - length ls) no_line; count = length ls }

-- a store at the count
unfoldable pub with_line : Report → Line → Report
with_line r l = cond (leb most_flows r.count) r (record { lines = set r.lines r.count l; count = r.count + 1 })

-- the figures of the first line of that number, or 11
unfoldable pub asked_in : List Line → ℕ → Result Figures Refusal
asked_in [] number = Err (record { cause = Absent; place = 0 })
asked_in (l ∷ ls) number = cond (eqb l.number number) (Ok l.figures) (asked_in ls number)
