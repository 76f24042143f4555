-- Writing: what each record leaves in the buffer, and a law for each way out.
use Prim.Native.Nat.{ℕ, suc, ◌+◌, ◌*◌, ◌≤◌, ◌<◌}
use mathlib.Core.Path.{◌≡◌, refl, ap, ◌∙◌, subst}
use mathlib.Core.List.{List, [], ◌∷◌, ◌++◌}
use native.Mathlib.Omega.{arith}
use lib.ListN.{length, get_or, take, drop, set}
use Rattle.std.specs.Prelude.{Ok, Err}
use Rattle.flows.specs.declared.Refusal.{Refusal}
use Rattle.flows.specs.declared.Cause.TheVariants.{ShortBuffer}
use Rattle.flows.specs.WellFormed.{Each, each_none, each_more}
use Rattle.records.specs.declared.Line.{Line}
use Rattle.records.specs.Kinds.{count_kind, count_record, line_body, line_record, close_kind}
use Rattle.records.specs.Bodies.{words_written, line_written}
use Rattle.records.proofs.Rows as rows
use Rattle.records.proofs.Rows.{row_long, Holds, holds_none, holds_next, buffer_kept, buffer_filled}
use Rattle.lines.specs.declared.Report.{Report}
use Rattle.lines.specs.Reports.{lines_in}
use Rattle.lines.specs.Writing.{count_bytes, line_bytes, lines_bytes, report_bytes, report_length, report_written, report_after}
use Rattle.lines.proofs.Arrays.{lines-all}

-- ---- a record
pub body_long : (l : Line) → length (line_written l) ≡ line_body
unfolding line_written words_written
body_long l = refl

count-put : (old : List ℕ) (n : ℕ) → count_record ≤ length old → set (set old 0 count_kind) 1 n ≡ count_bytes n ++ drop count_record old
count-put [] n h = absurd (omega arith)
count-put (x ∷ []) n h = absurd (omega arith)
count-put (x ∷ y ∷ old) n h = refl

-- ---- the records of the lines
long_each : (ls : List Line) → Each (λ l. length (line_bytes l) ≡ line_record) ls
long_each [] = each_none
long_each (l ∷ ls) = each_more (ap suc (body_long l)) (long_each ls)

pub lines_long : (ls : List Line) → length (lines_bytes ls) ≡ line_record * length ls
lines_long ls = row_long line_bytes count_record line_record ls (long_each ls)

abbrev pub Lines : List ℕ → List Line → List ℕ → Type 0
Lines old ls buf = Holds line_bytes count_record line_record old ls buf

pub puts_none : (old : List ℕ) (ls : List Line) → Lines old (take 0 ls) old
puts_none old ls = holds_none line_bytes count_record line_record old

pub puts_more : (old buf new : List ℕ) (ls : List Line) (k : ℕ) (d : Line) → k < length ls → count_record ≤ length old → Lines old (take k ls) buf →
    new ≡ take (count_record + line_record * k) buf ++ (line_bytes (get_or ls k d) ++ drop (count_record + line_record * k + line_record) buf) →
    Lines old (take (k + 1) ls) new
puts_more old buf new ls k d h g held e = holds_next line_bytes count_record line_record old buf new ls k d h g held (ap suc (body_long (get_or ls k d))) e

pub puts_end : (r : Report) (old buf : List ℕ) (n k : ℕ) → n ≡ length (lines_in r) → k ≡ n → Lines old (take k r.lines) buf →
    buf ≡ (take count_record old ++ lines_bytes (lines_in r)) ++ drop (count_record + line_record * length (lines_in r)) old
puts_end r old buf n k e z h = (subst (λ (ls : List Line). Lines old ls buf) (lines-all r k (z ∙ e)) h).1

-- ---- the whole report, with n lines of which the code knows the number as m
module _ (space n m : ℕ) (e : m ≡ n) where
  pub wrote_short : (r : Refusal) → space < report_length m → r ≡ record { cause = ShortBuffer; place = 0 } → Err r ≡ report_written space n
  wrote_short r h g = rows.wrote_short space (report_length n) r (rw e at h) g

  pub wrote_all : report_length m ≤ space → Ok (report_length m) ≡ report_written space n
  wrote_all h = rows.wrote_all space (report_length m) h ∙ ap (report_written space) e

module _ (ls : List Line) (old : List ℕ) (m : ℕ) (e : m ≡ length ls) where
  pub kept : length old < report_length m → old ≡ report_after ls old
  kept h = buffer_kept (report_bytes ls) (report_length (length ls)) old (rw e at h)

  pub filled : (two : List ℕ) → report_length m ≤ length old →
      two ≡ (take count_record (set (set old 0 count_kind) 1 m) ++ lines_bytes ls) ++ drop (count_record + line_record * length ls) (set (set old 0 count_kind) 1 m) →
      set two (count_record + line_record * m) close_kind ≡ report_after ls old
  unfolding report_bytes
  filled two h g =
      let i : report_length (length ls) ≤ length old = rw e at h in
      let c : set (set old 0 count_kind) 1 m ≡ count_bytes (length ls) ++ drop count_record old =
      count-put old m (omega arith) ∙ ap (λ (j : ℕ). count_bytes j ++ drop count_record old) e in
      ap (λ (j : ℕ). set two (count_record + line_record * j) close_kind) e ∙
      rows.filled line_bytes count_record line_record old (count_bytes (length ls)) _ two ls close_kind refl i c (lines_long ls, g) ∙
      buffer_filled (report_bytes ls) (report_length (length ls)) old i
