-- What the host's functions on reports promise, from the equations. Assumes nothing.
use Prim.Native.Nat.{ℕ, zero, suc, ◌*◌, ◌%◌, ◌≤◌, ◌<◌}
use mathlib.Core.Path.{◌≡◌, refl, sym, ap, ◌∙◌, subst}
use mathlib.Core.Bool.{Bool, true, false, cond}
use mathlib.Core.List.Memᴰ
use mathlib.Core.List.{List, [], Memᴰ}
use mathlib.Core.Logic.{◌⊎◌, inl, inr}
use native.Mathlib.Omega.{arith}
use lib.ListN.{length, get_or}
use lib.Dec.{ltb}
use mir.Val.{Fits}
use mir.Syntax.{w8}
use borrow.Author.Tests.{ltb-true, ltb-false}
use Rattle.std.specs.Prelude.{Result, Ok, Err, is_ok}
use Rattle.flows.specs.declared.Figures.{Figures}
use Rattle.flows.specs.declared.Refusal.{Refusal}
use Rattle.records.specs.declared.Line.{Line}
use Rattle.records.specs.Bodies.{Bytes}
use Rattle.records.proofs.RoundTrip.{bytes_fit}
use Rattle.reader.proofs.Places.{impossible}
use Rattle.lines.specs.declared.Report.{Report}
use Rattle.lines.specs.declared.Reading.{Reading}
use Rattle.lines.specs.Reports.{lines_in, asked_in}
use Rattle.lines.specs.Reading.{read_report}
use Rattle.lines.specs.Writing.{report_written, report_after}
use Rattle.lines.specs.Demands.{size}
use Rattle.lines.proofs.Arrays.{lines_of}
use Rattle.lines.proofs.Unread.{place_inside}
use Rattle.table.specs.Calls.{Asked}
use Rattle.plans.specs.Plans.{plan_answer}
use Rattle.plans.proofs.Trips.{answer_made}
use Rattle.reports.specs.Reports.{table_lines}
use Rattle.reports.specs.Demands.{TableReported}
use Rattle.reports.proofs.Promises.{reported}
use Rattle.host.specs.Host.{outcome_code, code_unless, plan_code, written_code, write_code, write_buffer, figure_of, figure_in, report_figure}
use Rattle.host.specs.Demands.{number_in, flow_in, report_in, Writes, Checks, Listed, Shows}
use Rattle.host.proofs.Numbers.{number_range, tells}
use Rattle.host.proofs.Reports.{figure_bound, figure_jitter, figure_busy, figure_none, asks}

-- ---- a report that is written
module _ (b : List ℕ) (u : Bytes b) (old : List ℕ) where
  abbrev s : Report
  s = report_in b

  abbrev answer : Result ℕ Refusal
  answer = report_written (length old) (length (table_lines (plan_answer b).table))

  reported_in : TableReported (plan_answer b).table old answer (report_after (table_lines (plan_answer b).table) old)
  reported_in = reported (plan_answer b).table (answer_made b u) old

  short_code : length old < size s → written_code answer ≡ 13
  short_code h = ap written_code (reported_in.report.short h).0

  long_code : size s ≤ length old → written_code answer ≡ 256 * size s
  long_code h = ap written_code (reported_in.report.long h).0

  writes : Writes b old (write_code b (length old)) (write_buffer b old)
  unfolding write_code write_buffer plan_code
  writes = go (plan_answer b).outcome refl
    where
      go : (o : Result (Unit {0}) Refusal) → (plan_answer b).outcome ≡ o → Writes b old (code_unless o (written_code answer)) (cond (is_ok o) (report_after (table_lines (plan_answer b).table) old) old)
      go (Ok tt) e =
          record {
            refused = λ never. absurd (never e);
            short = λ _ h. short_code h;
            long = λ _ h. long_code h;
            report = λ _. reported_in;
            told = (λ z. (e, room z (ltb (length old) (size s)) refl), λ z. let l = long_code z.1 in omega arith);
          }
        where
          room : written_code answer % 256 ≡ 0 → (q : Bool) → ltb (length old) (size s) ≡ q → size s ≤ length old
          room z true i = let l = short_code (ltb-true _ _ i) in absurd (omega arith)
          room z false i = ltb-false _ _ i
      go (Err x) e =
          let never : (plan_answer b).outcome ≡ Ok tt → ⊥ = λ g. absurd (cc) in
          let n = number_range x.cause in
          record {
            refused = λ _. (sym (ap outcome_code e), refl);
            short = λ yes. absurd (never yes);
            long = λ yes. absurd (never yes);
            report = λ yes. absurd (never yes);
            told = (λ z. absurd (omega arith), λ z. absurd (never z.0));
          }

pub write_promise : (b old : List ℕ) (r : ℕ) (new : List ℕ) → ((k : ℕ) → Fits w8 (get_or b k 0)) → r ≡ write_code b (length old) → new ≡ write_buffer b old → Writes b old r new
write_promise b old r new f e g =
    subst (λ (x : List ℕ). Writes b old r x) (sym g) (subst (λ (q : ℕ). Writes b old q (write_buffer b old)) (sym e) (writes b (bytes_fit b f) old))

-- ---- a report that is checked
pub check_promise : (b : List ℕ) (a : Reading) (r : ℕ) → a ≡ read_report b → r ≡ outcome_code a.outcome → (number_in a.outcome < 256) × (flow_in a.outcome < 256) → Checks b r
check_promise b a r e h s = rw (h, ← e) (tells a.outcome s.1)

-- ---- a figure of a report
none_of : {figure : ℕ} → (figure ≡ 0) ⊎ (3 < figure) → (n : ℕ) → 1 ≤ n → n ≤ 3 → figure ≡ n → ⊥
none_of (inl z) n a c e = omega arith
none_of (inr z) n a c e = omega arith

no_such : (g : Figures) (n : ℕ) → figure_of g n ≡ 0 → (n ≡ 0) ⊎ (3 < n)
no_such g zero z = inl refl
no_such g (suc zero) z = absurd (omega (arith, figure_bound g 1 refl))
no_such g (suc (suc zero)) z = absurd (omega (arith, figure_jitter g 2 refl))
no_such g (suc (suc (suc zero))) z = absurd (omega (arith, figure_busy g 3 refl))
no_such g (suc (suc (suc (suc n)))) z = inr (omega arith)

module _ (b : List ℕ) (f : (k : ℕ) → Fits w8 (get_or b k 0)) (number figure : ℕ) where
  abbrev answered : Asked
  answered = asked_in (lines_in (read_report b).report) number

  present : (l : Line) → Listed b l → l.number ≡ number → answered ≡ Ok l.figures
  present = (asks b f number).present

  shows-line : (l : Line) → Listed b l → l.number ≡ number → report_figure b number figure ≡ figure_of l.figures figure
  unfolding report_figure
  shows-line l m h = ap (λ (a : Asked). figure_in a figure) (present l m h)

  outside : (figure ≡ 0) ⊎ (3 < figure) → (a : Asked) → figure_in a figure ≡ 0
  outside o (Ok g) = sym (figure_none g figure (none_of o 1 (omega arith) (omega arith)) (none_of o 2 (omega arith) (omega arith)) (none_of o 3 (omega arith) (omega arith)))
  outside o (Err x) = refl

  lacks_figure : ((l : Line) → Listed b l → l.number ≡ number → ⊥) → report_figure b number figure ≡ 0
  unfolding report_figure
  lacks_figure n = ap (λ (a : Asked). figure_in a figure) ((asks b f number).absent n)

  shows : Shows b number figure (report_figure b number figure)
  unfolding report_figure
  shows = record {
    zero = (λ z. none answered refl z, some);
    bound = λ l m h i. shows-line l m h ∙ sym (figure_bound l.figures figure i);
    jitter = λ l m h i. shows-line l m h ∙ sym (figure_jitter l.figures figure i);
    busy = λ l m h i. shows-line l m h ∙ sym (figure_busy l.figures figure i);
  }
    where
      No : Type 0
      No = ((read_report b).outcome ≡ Ok tt → ⊥) ⊎ (((l : Line) → Listed b l → l.number ≡ number → ⊥) ⊎ ((figure ≡ 0) ⊎ (3 < figure)))

      none : (a : Asked) → answered ≡ a → figure_in a figure ≡ 0 → No
      none (Ok g) e z = inr (inr (no_such g figure z))
      none (Err x) e z = inr (inl (λ l m h. let p = present l m h in impossible (cc)))

      some : No → report_figure b number figure ≡ 0
      some (inl never) =
          lacks_figure (λ l m h. Memᴰ.not-nil (subst (Memᴰ l) (ap lines_in ((place_inside b (bytes_fit b f)).empty never) ∙ lines_of []) m))
      some (inr (inl n)) = lacks_figure n
      some (inr (inr o)) = outside o answered

pub figure_promise : (b : List ℕ) (number figure r : ℕ) → ((k : ℕ) → Fits w8 (get_or b k 0)) → r ≡ report_figure b number figure → Shows b number figure r
figure_promise b number figure r f e = subst (Shows b number figure) (sym e) (shows b f number figure)
