-- What reading, writing and asking a report promise, from the equations.
use Prim.Native.Nat.{ℕ, ◌≤◌, ◌<◌}
use mathlib.Core.Path.{◌≡◌, refl, sym, ap, ◌∙◌, subst}
use mathlib.Core.List.{List, [], ◌∷◌, ◌++◌, Memᴰ}
use mathlib.Core.Logic.{⊎_elim}
use native.Mathlib.Omega.{arith}
use lib.ListN.{length, get_or, take, drop}
use mir.Val.{Fits}
use mir.Syntax.{w8}
use borrow.Author.Tests.{eq-eqb, ne_eqb}
use Rattle.flows.specs.declared.Cause.TheVariants.{ShortBuffer, Absent}
use Rattle.flows.specs.declared.Figures.{Figures}
use Rattle.flows.specs.declared.Refusal.{Refusal}
use Rattle.std.specs.Prelude.{Result, Ok, Err}
use Rattle.row.specs.Rows.{RisingBy, rising-more}
use Rattle.records.specs.declared.Line.{Line}
use Rattle.records.specs.Bodies.{Bytes}
use Rattle.records.proofs.RoundTrip.{bytes_fit}
use Rattle.records.proofs.Rows.{wrote_short, wrote_all, buffer_kept, buffer_filled, buffer_begins, buffer_rest, buffer_long}
use Rattle.row.proofs.Sets.{above}
use Rattle.lines.specs.declared.Report.{Report}
use Rattle.lines.specs.declared.Reading.{Reading}
use Rattle.lines.specs.Reports.{lines_in, asked_in}
use Rattle.lines.specs.Reading.{read_report}
use Rattle.lines.specs.Writing.{report_bytes, report_length, report_written, report_after}
use Rattle.lines.specs.Demands.{size, InOrder, WritesBack, ReportRead, ReportWritten, ReportAsked}
use Rattle.lines.proofs.Trips.{form_read, write_read, report_long, report-length}
use Rattle.lines.proofs.Orders.{read-order, read_write}
use Rattle.lines.proofs.Unread.{place_inside, report_form, unread_exact, foreign_refused}

-- ---- writing
module _ (s : Report) (old : List ℕ) where
  abbrev n : ℕ
  n = length (lines_in s)

  abbrev bytes : List ℕ
  bytes = report_bytes (lines_in s)

  long : length bytes ≡ report_length n
  long = report_long (lines_in s) ∙ sym (report-length n)

  module _ (h : size s ≤ length old) where
    fits : report_length n ≤ length old
    fits = omega (arith, report-length n)

    answer-long : report_written (length old) n ≡ Ok (size s)
    answer-long = sym (wrote_all (length old) (report_length n) fits) ∙ ap Ok (report-length n)

    begins : take (size s) (report_after (lines_in s) old) ≡ bytes
    begins = ap (λ (k : ℕ). take k (report_after (lines_in s) old)) (sym (report-length n)) ∙ buffer_begins bytes (report_length n) old long fits

    rest : drop (size s) (report_after (lines_in s) old) ≡ drop (size s) old
    rest =
        ap (λ (k : ℕ). drop k (report_after (lines_in s) old)) (sym (report-length n)) ∙ buffer_rest bytes (report_length n) old long fits ∙
        ap (λ (k : ℕ). drop k old) (report-length n)

    pub writes_back : (b : List ℕ) → bytes ≡ b → WritesBack b s old
    writes_back b e =
        let m : report_length n ≡ length b = sym long ∙ ap length e in
        record {
          answer = sym (wrote_all (length old) (report_length n) fits) ∙ ap Ok m;
          buffer = sym (buffer_filled bytes (report_length n) old fits) ∙ ap (λ (x : List ℕ). x ++ drop (report_length n) old) e ∙ ap (λ (k : ℕ). b ++ drop k old) m;
        }

  module _ (h : length old < size s) where
    lacks : length old < report_length n
    lacks = omega (arith, report-length n)

    answer-short : report_written (length old) n ≡ Err (record { cause = ShortBuffer; place = 0 })
    answer-short = sym (wrote_short (length old) (report_length n) _ lacks refl)

  promised : InOrder s → ReportWritten s old (report_written (length old) n) (report_after (lines_in s) old)
  promised o = record {
    short = λ h. (answer-short h, sym (buffer_kept bytes (report_length n) old (lacks h)));
    short_is_13 = (refl, refl);
    long = λ h. (answer-long h, buffer_long bytes (report_length n) old long (fits h), rest h);
    read = λ h. ap read_report (begins h) ∙ write_read (lines_in s) o.listable ∙ ap (λ (r : Report). record { outcome = Ok tt; report = r }) (sym o.report);
    bytes = λ h b u e. begins h ∙ read_write b u s e;
  }

pub write_promise : (s : Report) (old : List ℕ) (r : Result ℕ Refusal) (new : List ℕ) → r ≡ report_written (length old) (length (lines_in s)) →
    new ≡ report_after (lines_in s) old → InOrder s → ReportWritten s old r new
write_promise s old r new e g o =
    subst (λ (x : List ℕ). ReportWritten s old r x) (sym g)
    (subst (λ (w : Result ℕ Refusal). ReportWritten s old w (report_after (lines_in s) old)) (sym e) (promised s old o))

-- ---- reading
reads : (b : List ℕ) → Bytes b → ReportRead b (read_report b)
reads b u = record {
  exactly = (report_form b u, λ i. ap (λ (r : Reading). r.outcome) (form_read b i));
  lists = λ i. ap (λ (r : Reading). r.report) (form_read b i);
  back = back;
  refused = unread_exact b u;
  in_order = read-order b u;
  empty = (place_inside b u).empty;
  foreign = foreign_refused b u;
}
  where
    back : (read_report b).outcome ≡ Ok tt → (old : List ℕ) → length b ≤ length old → WritesBack b (read_report b).report old
    back h old l =
        let s = (read_report b).report in
        let e = read_write b u s (ap (λ (o : Result (Unit {0}) Refusal). record { outcome = o; report = s }) h) in
        let m : size s ≡ length b = sym (report_long (lines_in s)) ∙ ap length e in
        writes_back s old (omega arith) b e

pub read_promise : (b : List ℕ) → ((k : ℕ) → Fits w8 (get_or b k 0)) → (r : Reading) → r ≡ read_report b → ReportRead b r
read_promise b f r e = subst (ReportRead b) (sym e) (reads b (bytes_fit b f))

-- ---- asking
pub asked_present : {n : ℕ} (ls : List Line) → RisingBy (λ m. m.number) n ls → (l : Line) → Memᴰ l ls → asked_in ls l.number ≡ Ok l.figures
unfolding asked_in
asked_present [] r l m = absurd (mathlib.Core.List.Memᴰ.not-nil m)
asked_present (k ∷ ls) (rising-more h r) l m =
    ⊎_elim (λ (e : l ≡ k). rw (e, eq-eqb k.number k.number refl))
    (λ (i : Memᴰ l ls). let g = above ls r i in rw (ne_eqb k.number l.number (λ e. omega arith)) (asked_present ls r l i)) (mathlib.Core.List.Memᴰ.cases_cons m)

asked_absent : (ls : List Line) (number : ℕ) → ((l : Line) → Memᴰ l ls → l.number ≡ number → ⊥) →
    asked_in ls number ≡ Err (record { cause = Absent; place = 0 })
unfolding asked_in
asked_absent [] number n = refl
asked_absent (k ∷ ls) number n =
    rw (ne_eqb k.number number (n k (mathlib.Core.List.Memᴰ.head refl))) (asked_absent ls number (λ l m. n l (mathlib.Core.List.Memᴰ.tail m)))

pub ask_promise : (s : Report) (number : ℕ) (r : Result Figures Refusal) → r ≡ asked_in (lines_in s) number → InOrder s → ReportAsked s number r
ask_promise s number r e o = record {
  present = λ l m h. e ∙ rw h at (asked_present (lines_in s) o.listable.rising l m);
  absent = λ n. e ∙ asked_absent (lines_in s) number n;
  absent_is_11 = (refl, refl);
}
