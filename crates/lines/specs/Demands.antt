-- What reading, writing and asking a report promise: RULES, the report, in words. The equations that callers use stand in Reports, Reading and Writing.
use Rattle.flows.specs.declared.Refusal.{Refusal}
use Rattle.std.specs.Prelude.{Result, Ok, Err, ℕ, ◌+◌, ◌*◌, ◌≤◌, ◌<◌, ◌≡◌, length, take, drop}
use mathlib.Core.List.{List, [], ◌∷◌, ◌++◌, Memᴰ}
use Rattle.flows.specs.declared.Figures.{Figures}
use Rattle.flows.specs.declared.Cause.{Cause}
use Rattle.flows.specs.declared.Cause.TheVariants.{ShortBuffer, Absent, OutOfRange, Malformed}
use Rattle.flows.specs.Refusals.{number_of, flow_named}
use Rattle.flows.specs.WellFormed.{Exactly, Each}
use Rattle.row.specs.Rows.{RisingBy}
use Rattle.records.specs.declared.Line.{Line}
use Rattle.records.specs.Kinds.{count_kind, line_kind, close_kind}
use Rattle.records.specs.Bodies.{Bytes, TypedLine}
use Rattle.lines.specs.declared.Report.{Report}
use Rattle.lines.specs.declared.Reading.{Reading}
use Rattle.lines.specs.Reports.{lines_in, report_of}
use Rattle.lines.specs.Reading.{last_number, read_report}
use Rattle.lines.specs.Writing.{count_bytes, line_bytes, lines_bytes, report_bytes, report_written, report_after}

-- figures that a flow can have
pub record Possible (g : Figures) : Type 0 where
  pub bound : 0 < g.bound
  pub busy : 0 < g.busy
  pub jitter : g.jitter < g.bound

-- lines that a report can list
pub record Listable (ls : List Line) : Type 0 where
  pub rising : RisingBy (λ l. l.number) 0 ls
  pub count : length ls ≤ 16
  pub figures : Each (λ l. Possible l.figures) ls
  pub typed : Each TypedLine ls

-- how many bytes a report has
abbrev pub size : Report → ℕ
size r = 3 + 8 * length (lines_in r)

-- a report of such lines, the places that they do not use zero: every one that is read, and every table's
pub record InOrder (r : Report) : Type 0 where
  pub listable : Listable (lines_in r)
  pub report : r ≡ report_of (lines_in r)

-- ---- reading: what is read
pub record InForm (b : List ℕ) : Type 0 where
  pub lines : List Line
  pub listable : Listable lines
  pub bytes : b ≡ report_bytes lines

-- whoever writes the report has these bytes at the start of the buffer, and the rest as it was
pub record WritesBack (b : List ℕ) (r : Report) (old : List ℕ) : Type 0 where
  pub answer : report_written (length old) (length (lines_in r)) ≡ Ok (length b)
  pub buffer : report_after (lines_in r) old ≡ b ++ drop (length b) old

-- ---- reading: what is refused
-- bytes that begin with a whole 10, with a whole 11, with 1F
pub record StartsCount (b : List ℕ) (n : ℕ) : Type 0 where
  pub rest : List ℕ
  pub bytes : b ≡ count_bytes n ++ rest

pub record StartsLine (b : List ℕ) (l : Line) : Type 0 where
  pub rest : List ℕ
  pub typed : TypedLine l
  pub bytes : b ≡ line_bytes l ++ rest

pub record StartsClose (b : List ℕ) : Type 0 where
  pub rest : List ℕ
  pub bytes : b ≡ close_kind ∷ rest

-- a count that is not refused and these of its lines, none of them refused; after them, at that place, these bytes
pub record After (b : List ℕ) (n : ℕ) (ls : List Line) (place : ℕ) (rest : List ℕ) : Type 0 where
  pub most : n ≤ 16
  pub announced : length ls ≤ n
  pub listable : Listable ls
  pub bytes : b ≡ (count_bytes n ++ lines_bytes ls) ++ rest
  pub place_is : place ≡ length (count_bytes n ++ lines_bytes ls)

-- a line's record after those of ls: 12 for a number that is 0 or does not rise, then 3
pub data OfRecord (ls : List Line) (l : Line) : Cause → Type 0 where
  not-rising : l.number ≤ last_number ls → OfRecord ls l Malformed
  not-possible : last_number ls < l.number → (Possible l.figures → ⊥) → OfRecord ls l OutOfRange

-- the first record that is refused, and where; a byte after the end is refused at its own place
pub data Unread (b : List ℕ) : Cause → ℕ → Type 0 where
  no-count : ((n : ℕ) → StartsCount b n → ⊥) → Unread b Malformed 0
  too_many : (n : ℕ) → StartsCount b n → 16 < n → Unread b Malformed 0
  no_line : (n : ℕ) (ls : List Line) (place : ℕ) (rest : List ℕ) → After b n ls place rest → length ls < n → ((l : Line) → StartsLine rest l → ⊥) → Unread b Malformed place
  of-line : (n : ℕ) (ls : List Line) (place : ℕ) (rest : List ℕ) (l : Line) (c : Cause) → After b n ls place rest → length ls < n → StartsLine rest l → OfRecord ls l c → Unread b c place
  no_close : (n : ℕ) (ls : List Line) (place : ℕ) (rest : List ℕ) → After b n ls place rest → length ls ≡ n → (StartsClose rest → ⊥) → Unread b Malformed place
  after_close : (n : ℕ) (ls : List Line) (place x : ℕ) (rest : List ℕ) → After b n ls place (close_kind ∷ x ∷ rest) → length ls ≡ n → Unread b Malformed (place + 1)

-- a place where a record is looked for, and the bytes from there on
pub data Sought (b rest : List ℕ) : ℕ → Type 0 where
  at-start : b ≡ rest → Sought b rest 0
  behind : (n : ℕ) (ls : List Line) (place : ℕ) → After b n ls place rest → Sought b rest place

-- a byte that is no kind of a report
pub record Foreign (x : ℕ) : Type 0 where
  pub count : x ≡ count_kind → ⊥
  pub line : x ≡ line_kind → ⊥
  pub close : x ≡ close_kind → ⊥

pub record ReportRead (b : List ℕ) (r : Reading) : Type 0 where
  pub exactly : Exactly (r.outcome ≡ Ok tt) (InForm b)
  pub lists : (i : InForm b) → r.report ≡ report_of i.lines
  pub back : r.outcome ≡ Ok tt → (old : List ℕ) → length b ≤ length old → WritesBack b r.report old
  pub refused : (cause : Cause) (place : ℕ) → Exactly (r.outcome ≡ Err (record { cause = cause; place = place })) (Unread b cause place)
  pub in_order : InOrder r.report
  -- nothing is shown of a refused report
  pub empty : (r.outcome ≡ Ok tt → ⊥) → r.report ≡ report_of []
  -- a kind that a report does not have is refused wherever a record is looked for: a plan is, and what comes later is
  pub foreign : (x place : ℕ) (rest : List ℕ) → Sought b (x ∷ rest) place → Foreign x → r.outcome ≡ Err (record { cause = Malformed; place = place })

-- ---- writing
-- 13 and a buffer as it was, if it is short; otherwise the length, a buffer that keeps its rest, and whose beginning is read as that report
-- and is any bytes from which the report was read
pub record ReportWritten (s : Report) (old : List ℕ) (r : Result ℕ Refusal) (new : List ℕ) : Type 0 where
  pub short : length old < size s → (r ≡ Err (record { cause = ShortBuffer; place = 0 })) × (new ≡ old)
  pub short_is_13 : (number_of ShortBuffer ≡ 13) × (flow_named ShortBuffer ≡ 0)
  pub long : size s ≤ length old → (r ≡ Ok (size s)) × (length new ≡ length old) × (drop (size s) new ≡ drop (size s) old)
  pub read : size s ≤ length old → read_report (take (size s) new) ≡ record { outcome = Ok tt; report = s }
  pub bytes : size s ≤ length old → (b : List ℕ) → Bytes b → read_report b ≡ record { outcome = Ok tt; report = s } → take (size s) new ≡ b

-- ---- asking
pub record ReportAsked (s : Report) (number : ℕ) (r : Result Figures Refusal) : Type 0 where
  pub present : (l : Line) → Memᴰ l (lines_in s) → l.number ≡ number → r ≡ Ok l.figures
  pub absent : ((l : Line) → Memᴰ l (lines_in s) → l.number ≡ number → ⊥) → r ≡ Err (record { cause = Absent; place = 0 })
  pub absent_is_11 : (number_of Absent ≡ 11) × (flow_named Absent ≡ 0)
