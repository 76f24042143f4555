-- What is printed, as bytes. RULES, programs.
use Rattle.std.specs.Prelude.{ℕ, ◌+◌, ◌/◌, ◌%◌, nat_lt, Result, Ok, Err, List, [], ◌∷◌, ◌++◌, take, length, replicate, min, cond, codes}
use Rattle.std.specs.Fmt.{decimal}
use Rattle.std.specs.List.{flat_map}
use Rattle.flows.specs.declared.Figures.{Figures}
use Rattle.flows.specs.declared.Refusal.{Refusal}
use Rattle.flows.specs.declared.Answer.{Answer}
use Rattle.flows.specs.declared.Table.{Table}
use Rattle.flows.specs.Refusals.{number_of, flow_named}
use Rattle.flows.specs.Lists.{held}
use Rattle.records.specs.declared.Line.{Line}
use Rattle.records.specs.Bodies.{line_words}
use Rattle.lines.specs.declared.Report.{Report}
use Rattle.lines.specs.Reports.{lines_in}
use Rattle.lines.specs.Reading.{read_report}
use Rattle.plan.specs.declared.FlowSet.{FlowSet}
use Rattle.plan.specs.declared.Reading.{Reading as SetReading}
use Rattle.plan.specs.Writing.{written_into, buffer_after}
use Rattle.lines.specs.Writing.{report_written, report_after}
use Rattle.plans.specs.Plans.{plan_answer}
use Rattle.reports.specs.Reports.{table_lines, table_report}

abbrev pub line_text : Line → List ℕ
line_text l = line_words l ++ codes "\n"

-- a flow's number and its figures
abbrev pub flow_text : ℕ → Figures → List ℕ
flow_text number g = line_text (record { number = number; figures = g })

-- the header, and the lines
unfoldable pub report_text : Report → List ℕ
report_text r = codes "flow bound jitter busy\n" ++ flat_map line_text (lines_in r)

abbrev pub table_text : Table → List ℕ
table_text t = report_text (table_report t)

-- a refusal by its numbers, and by its cause and place
abbrev pub numbers_text : ℕ → ℕ → ℕ → List ℕ
numbers_text number flow place = (codes "refused " ++ decimal number ++ codes " flow " ++ decimal flow ++ codes " at " ++ decimal place) ++ codes "\n"

abbrev pub refusal_text : Refusal → List ℕ
refusal_text r = numbers_text (number_of r.cause) (flow_named r.cause) r.place

-- what is printed of an outcome that is accepted, or its refusal
abbrev pub unless_refused : Result (Unit {0}) Refusal → List ℕ → List ℕ
unless_refused (Ok x) text = text
unless_refused (Err r) text = refusal_text r

-- of a call on a table: what it says that it did, or its refusal
abbrev pub done_text : Answer → List ℕ → List ℕ
done_text a done = unless_refused a.outcome done

abbrev pub asked_text : ℕ → Result Figures Refusal → List ℕ
asked_text number (Ok g) = flow_text number g
asked_text number (Err r) = refusal_text r

abbrev pub length_text : ℕ → List ℕ
length_text n = decimal n ++ codes "\n"

-- a figure from 0 to f
abbrev pub digit_of : ℕ → ℕ
digit_of n = cond (nat_lt n 10) (48 + n) (87 + n)

-- a byte in hexadecimal
abbrev pub byte_text : ℕ → List ℕ
byte_text b = digit_of (b / 16) ∷ digit_of (b % 16) ∷ []

abbrev pub hex_text : List ℕ → List ℕ
hex_text bs = flat_map byte_text bs ++ codes "\n"

-- the bytes that were written, at the start of these
abbrev pub written_text : Result ℕ Refusal → List ℕ → List ℕ
written_text (Ok n) bytes = hex_text (take n bytes)
written_text (Err r) bytes = refusal_text r

-- a plan or a report in hexadecimal, from a buffer that holds any
abbrev pub set_text : FlowSet → List ℕ
set_text s = written_text (written_into 550 (length (held s.row))) (buffer_after s.lmin s.lmax (held s.row) (replicate 550 0))

abbrev pub table_report_text : Table → List ℕ
table_report_text t = written_text (report_written 131 (length (table_lines t))) (report_after (table_lines t) (replicate 131 0))

-- of writing into a buffer: the length of what was written, or the refusal; then the buffer that had these bytes
abbrev pub answer_text : Result ℕ Refusal → List ℕ
answer_text (Ok n) = length_text n
answer_text (Err r) = refusal_text r

abbrev pub into_text : Table → List ℕ → List ℕ
into_text t old = answer_text (written_into (length old) (length (held t.row))) ++ hex_text (buffer_after t.lmin t.lmax (held t.row) old)

-- a buffer of at most 900 bytes, each A5
abbrev pub lent_text : Table → ℕ → List ℕ
lent_text t n = into_text t (replicate (min n 900) 165)

-- how many flows were read
abbrev pub read_text : SetReading → List ℕ
read_text reading = unless_refused reading.outcome (codes "read " ++ length_text (length (held reading.set.row)))

-- of a report that is read
abbrev pub shown_text : List ℕ → List ℕ
shown_text b = unless_refused (read_report b).outcome (report_text (read_report b).report)

-- of a plan: its table, or the refusal
abbrev pub plan_text : List ℕ → List ℕ
plan_text b = unless_refused (plan_answer b).outcome (table_text (plan_answer b).table)
