-- What stands at a place of a report, as its bytes and as what is read there; what is written and then read is the lines that were written.
use Prim.Native.Nat.{ℕ, suc, ◌+◌, ◌-◌, ◌*◌, ◌≤◌, ◌<◌}
use mathlib.Core.Path.{◌≡◌, refl, sym, ap, ◌∙◌}
use mathlib.Core.Bool.{cond}
use mathlib.Core.List.{List, [], ◌∷◌, ◌++◌, append-nil, append_assoc}
use native.Mathlib.Nat.{add-zero}
use native.Mathlib.Omega.{arith}
use lib.ListN.{length, get_or, take, drop, length-append}
use lib.Seq.{drop_at, drop-cons, append_snoc}
use lib.Dec.{ltb}
use borrow.Author.Tests.{ne_eqb, lt-ltb, le-ltb, lt-leb}
use Rattle.std.specs.Prelude.{Ok, Some}
use Rattle.flows.specs.declared.Cause.TheVariants.{Malformed}
use Rattle.flows.specs.Refusals.{accepted}
use Rattle.flows.specs.Lists.{most_flows}
use Rattle.flows.specs.WellFormed.{Each, each_more}
use Rattle.row.specs.Rows.{RisingBy, rising-more}
use Rattle.records.specs.declared.Line.{Line}
use Rattle.records.specs.Kinds.{count_kind, count_record, line_kind, line_body, line_record, close_kind}
use Rattle.records.specs.Bodies.{Bytes, line_read, line_written, TypedLine}
use Rattle.records.specs.Rows.{row_bytes}
use Rattle.records.proofs.RoundTrip.{line_back, line_again, line-typed}
use Rattle.reader.specs.declared.Kind.TheVariants as kind
use Rattle.reader.specs.Places.{kind_at, body_at}
use Rattle.reader.proofs.Places.{whole}
use Rattle.reader.proofs.Records as records
use Rattle.reader.proofs.Records.{body_bytes, record_split, first_byte, record_here, record_body, record_next}
use Rattle.lines.specs.Reports.{report_of}
use Rattle.lines.specs.Reading.{count_in, line_at, refused, unless, last_number, figures_fit, line_cause, reading_of, read_lines, read_records, read_report}
use Rattle.lines.specs.Writing.{count_bytes, line_bytes, lines_bytes, report_bytes, report_length}
use Rattle.lines.specs.Demands.{Possible, Listable, InForm, StartsCount, StartsLine, StartsClose, After}
use Rattle.lines.proofs.Steps.{close_last, number_last, lines_end, lines_at_line, records_at_count}
use Rattle.lines.proofs.Puts.{body_long, lines_long}

-- ---- a record at a place
-- the rest of a report from a place on begins with a record exactly if there is one of that kind at the place
module _ (b : List ℕ) (at : ℕ) {rest : List ℕ} (e : drop at b ≡ rest) where
  pub close_here : StartsClose rest → kind_at b at ≡ Some kind.Close
  close_here s = record_here b at e kind.Close [] s.rest refl s.bytes

  pub close_starts : kind_at b at ≡ Some kind.Close → StartsClose rest
  close_starts h = record { rest = drop (at + 1) b; bytes = sym e ∙ record_split b at kind.Close (whole b at kind.Close h) }

  module _ {l : Line} (s : StartsLine rest l) where
    line-next : drop (at + line_record) b ≡ s.rest
    line-next = record_next b at e kind.Line (line_written l) s.rest (body_long l) s.bytes

    pub line_here_lem : kind_at b at ≡ Some kind.Line
    line_here_lem = record_here b at e kind.Line (line_written l) s.rest (body_long l) s.bytes

    pub line_same : line_at b at ≡ l
    line_same = ap line_read (record_body b at e kind.Line (line_written l) s.rest (body_long l) s.bytes) ∙ line_again l s.typed

  pub line_starts : Bytes b → kind_at b at ≡ Some kind.Line → StartsLine rest (line_at b at)
  line_starts u h =
      let w = whole b at kind.Line h in
      let part = body_bytes b at kind.Line w u in
      let y : line_written (line_at b at) ≡ body_at b at line_body = line_back _ (records.body_long b at kind.Line w) part in
      record {
        rest = drop (at + line_record) b;
        typed = line-typed (body_at b at line_body) part;
        bytes = sym e ∙ record_split b at kind.Line w ∙ ap (λ (x : List ℕ). line_kind ∷ (x ++ drop (at + line_record) b)) (sym y);
      }

module _ (b : List ℕ) where
  pub count_starts : kind_at b 0 ≡ Some kind.Count → StartsCount b (count_in b)
  count_starts h =
      let w = whole b 0 kind.Count h in
      record {
        rest = drop count_record b;
        bytes = record_split b 0 kind.Count w ∙ ap (λ (x : List ℕ). count_kind ∷ (take 1 x ++ drop count_record b)) (drop-cons b 1 0 (omega (arith, w.room)));
      }

  module _ (n : ℕ) (s : StartsCount b n) where
    pub count_here : kind_at b 0 ≡ Some kind.Count
    count_here = record_here b 0 refl kind.Count (n ∷ []) s.rest refl s.bytes

    pub records_start : read_records b ≡ cond (ltb most_flows n) (refused Malformed 0) (read_lines n [] b count_record)
    records_start =
        let c : count_in b ≡ n = ap (λ (x : List ℕ). get_or x 1 0) s.bytes in
        records_at_count b count_here ∙ ap (λ (m : ℕ). cond (ltb most_flows m) (refused Malformed 0) (read_lines m [] b count_record)) c

-- ---- written, then read
pub accepted-line : (last : ℕ) (l : Line) → last < l.number → Possible l.figures → line_cause last l ≡ accepted
unfolding line_cause figures_fit
accepted-line last l h p =
    let g = l.figures in
    rw (lt-leb _ _ h, ne_eqb g.bound 0 (λ z. omega (arith, p.bound)), ne_eqb g.busy 0 (λ z. omega (arith, p.busy)), lt-ltb _ _ p.jitter)

-- after lines that are not refused, reading goes on behind their records
read_lines_lem : (gs ls : List Line) (b post : List ℕ) (at more : ℕ) → drop at b ≡ lines_bytes gs ++ post →
    RisingBy (λ l. l.number) (last_number ls) gs → Each (λ l. Possible l.figures) gs → Each TypedLine gs →
    read_lines (length gs + more) ls b at ≡ read_lines more (ls ++ gs) b (at + length (lines_bytes gs))
unfolding row_bytes unless
read_lines_lem [] ls b post at more s r p t = let z : 0 + more ≡ more = omega arith in rw (append-nil ls, add-zero, z)
read_lines_lem (g ∷ gs) ls b post at more s (rising-more j r) (each_more x p) (each_more u t) =
    let z : StartsLine ((line_bytes g ++ lines_bytes gs) ++ post) g =
    record { rest = lines_bytes gs ++ post; typed = u; bytes = append_assoc (line_bytes g) (lines_bytes gs) post } in
    let n : length (g ∷ gs) + more ≡ suc (length gs + more) = omega arith in
    let q : at + line_record + length (lines_bytes gs) ≡ at + length (line_bytes g ++ lines_bytes gs) =
    omega (arith, length-append (line_bytes g) (lines_bytes gs), body_long g) in
    let v : RisingBy (λ l. l.number) (last_number (ls ++ (g ∷ []))) gs = rw (number_last ls g) r in
    let ih = read_lines_lem gs (ls ++ (g ∷ [])) b post (at + line_record) more (line-next b at s z) v p t in
    rw n (lines_at_line ls b at (length gs + more) (line_here_lem b at s z) ∙
    rw (line_same b at s z, accepted-line (last_number ls) g j x) (rw (append_snoc ls g gs, q) at ih))

module _ {b : List ℕ} {n : ℕ} {ls : List Line} {place : ℕ} {rest : List ℕ} (a : After b n ls place rest) where
  pub after_rest : drop place b ≡ rest
  after_rest = ap (drop place) a.bytes ∙ drop_at (count_bytes n ++ lines_bytes ls) rest place (sym a.place_is)

  -- the records that are not refused are read, whatever follows them
  pub read_after : read_records b ≡ read_lines (n - length ls) ls b place
  unfolding last_number
  read_after =
      let c = a.listable in
      let e : b ≡ count_bytes n ++ (lines_bytes ls ++ rest) = a.bytes ∙ append_assoc (count_bytes n) (lines_bytes ls) rest in
      let s : StartsCount b n = record { rest = lines_bytes ls ++ rest; bytes = e } in
      let p : count_record + length (lines_bytes ls) ≡ place = omega (arith, a.place_is, length-append (count_bytes n) (lines_bytes ls)) in
      let z : n ≡ length ls + (n - length ls) = omega (arith, a.announced) in
      let f : read_records b ≡ read_lines n [] b count_record = rw (le-ltb most_flows n a.most) at (records_start b n s) in
      f ∙ ap (λ (m : ℕ). read_lines m [] b count_record) z ∙
      rw p at (read_lines_lem ls [] b rest count_record (n - length ls) (ap (drop count_record) e) c.rising c.figures c.typed)

form-listed : (b : List ℕ) (i : InForm b) → read_records b ≡ Ok (report_of i.lines)
unfolding report_bytes
form-listed b i =
    let ls = i.lines in
    let p : List ℕ = count_bytes (length ls) ++ lines_bytes ls in
    let a : After b (length ls) ls (length p) (close_kind ∷ []) =
    record { most = i.listable.count; announced = omega arith; listable = i.listable; bytes = i.bytes; place_is = refl } in
    let m : length b ≤ length p + 1 = omega (arith, (first_byte b (length p) (after_rest a) close_kind [] refl).1) in
    let s : StartsClose (close_kind ∷ []) = record { rest = []; bytes = refl } in
    let z : length ls - length ls ≡ 0 = omega arith in
    read_after a ∙ rw z (lines_end ls b (length p) ∙ sym (close_last (report_of ls) b (length p) (Some kind.Close) (sym (close_here b (length p) (after_rest a) s)) refl m))

-- what is in form is read, as the lines that it lists
pub form_read : (b : List ℕ) (i : InForm b) → read_report b ≡ record { outcome = Ok tt; report = report_of i.lines }
form_read b i = ap reading_of (form-listed b i)

pub write_read : (ls : List Line) → Listable ls → read_report (report_bytes ls) ≡ record { outcome = Ok tt; report = report_of ls }
write_read ls c = form_read (report_bytes ls) (record { lines = ls; listable = c; bytes = refl })

-- the length that RULES, the report, says
pub report_long : (ls : List Line) → length (report_bytes ls) ≡ 3 + 8 * length ls
unfolding report_bytes
report_long ls =
    omega (arith, length-append (count_bytes (length ls) ++ lines_bytes ls) (close_kind ∷ []), length-append (count_bytes (length ls)) (lines_bytes ls), lines_long ls)

pub report-length : (n : ℕ) → report_length n ≡ 3 + 8 * n
report-length n = omega arith
