-- Writing a report: the bytes, the answer, and what the buffer then holds. RULES, the report.
use Rattle.flows.specs.declared.Refusal.{Refusal}
use Rattle.std.specs.Prelude.{Result, ℕ, ◌+◌, ◌*◌, List, [], ◌∷◌, ◌++◌, length}
use Rattle.records.specs.declared.Line.{Line}
use Rattle.records.specs.Kinds.{count_kind, count_record, line_kind, line_record, close_kind}
use Rattle.records.specs.Bodies.{line_written}
use Rattle.records.specs.Rows.{row_bytes, size_written, buffer_with}

abbrev pub count_bytes : ℕ → List ℕ
count_bytes n = count_kind ∷ n ∷ []

abbrev pub line_bytes : Line → List ℕ
line_bytes l = line_kind ∷ line_written l

abbrev pub lines_bytes : List Line → List ℕ
lines_bytes ls = row_bytes line_bytes ls

-- 10, then each 11, then 1F
unfoldable pub report_bytes : List Line → List ℕ
report_bytes ls = count_bytes (length ls) ++ lines_bytes ls ++ (close_kind ∷ [])

-- the sum of the records: 3 + 8 × n
abbrev pub report_length : ℕ → ℕ
report_length n = count_record + line_record * n + 1

-- 13, if the report does not fit
abbrev pub report_written : ℕ → ℕ → Result ℕ Refusal
report_written space n = size_written space (report_length n)

-- the report, and behind it what was there; where it does not fit, all that was there
abbrev pub report_after : List Line → List ℕ → List ℕ
report_after ls old = buffer_with (report_bytes ls) (report_length (length ls)) old
