-- Reading a report: records judged in order, each by its kind. RULES, the report.
use Rattle.std.specs.Prelude.{Result, Ok, Err, ℕ, zero, suc, ◌+◌, ◌-◌, Bool, cond, not, ◌&&◌, List, [], ◌∷◌, ◌++◌, length, get_or, leb, ltb, eqb}
use Rattle.flows.specs.declared.Figures.{Figures}
use Rattle.flows.specs.declared.Refusal.{Refusal}
use Rattle.flows.specs.declared.Cause.{Cause}
use Rattle.flows.specs.declared.Cause.TheVariants.{OutOfRange, Malformed}
use Rattle.flows.specs.Refusals.{Ruling, accepted}
use Rattle.flows.specs.Lists.{most_flows}
use Rattle.records.specs.declared.Line.{Line}
use Rattle.records.specs.Kinds.{count_record, line_body, line_record}
use Rattle.records.specs.Bodies.{line_read}
use Rattle.reader.specs.declared.Kind.TheVariants as kind
use Rattle.reader.specs.Places.{kind_at, body_at, if_kind}
use Rattle.lines.specs.declared.Report.{Report}
use Rattle.lines.specs.declared.Reading.{Reading}
use Rattle.lines.specs.Reports.{no_line, report_of}

-- how many flows the first record says, and the line at a place
abbrev pub count_in : List ℕ → ℕ
count_in b = get_or b 1 0

abbrev pub line_at : List ℕ → ℕ → Line
line_at b at = line_read (body_at b at line_body)

-- the report that records list, or the first of them that is refused
abbrev pub Listing : Type 0
Listing = Result Report Refusal

abbrev pub refused : Cause → ℕ → Listing
refused cause place = Err (record { cause = cause; place = place })

-- nothing is shown of a refused report
abbrev pub reading_of : Listing → Reading
reading_of (Ok report) = record { outcome = Ok tt; report = report }
reading_of (Err r) = record { outcome = Err r; report = report_of [] }

-- reading goes on where a record has no cause against it
unfoldable pub unless : Ruling → ℕ → Listing → Listing
unless (Ok x) place next = next
unless (Err cause) place next = refused cause place

-- the number that a line's must be above: that of the line before, or 0
unfoldable pub last_number : List Line → ℕ
last_number ls = (get_or ls (length ls - 1) no_line).number

-- what a flow can have
unfoldable pub figures_fit : Figures → Bool
figures_fit g = not (eqb g.bound 0) && (not (eqb g.busy 0) && ltb g.jitter g.bound)

-- a line after one of that number: 12 for its order, then 3
unfoldable pub line_cause : ℕ → Line → Ruling
line_cause last l = cond (leb l.number last) (Err Malformed) (cond (figures_fit l.figures) accepted (Err OutOfRange))

-- 1F, then nothing; a further byte is refused at its place, any other record at its own
unfoldable pub read_close : Report → List ℕ → ℕ → Listing
read_close report b at =
    if_kind (kind_at b at) kind.Close (cond (ltb (at + 1) (length b)) (refused Malformed (at + 1)) (Ok report)) (refused Malformed at)

-- so many lines more after those, from a place on, then the end
unfoldable pub read_lines : ℕ → List Line → List ℕ → ℕ → Listing
read_lines zero ls b at = read_close (report_of ls) b at
read_lines (suc more) ls b at =
    if_kind (kind_at b at) kind.Line
    (unless (line_cause (last_number ls) (line_at b at)) at (read_lines more (ls ++ (line_at b at ∷ [])) b (at + line_record)))
    (refused Malformed at)

-- the first record is 10, with a count that a table can have
unfoldable pub read_records : List ℕ → Listing
read_records b =
    if_kind (kind_at b 0) kind.Count
    (cond (ltb most_flows (count_in b)) (refused Malformed 0) (read_lines (count_in b) [] b count_record))
    (refused Malformed 0)

abbrev pub read_report : List ℕ → Reading
read_report b = reading_of (read_records b)
