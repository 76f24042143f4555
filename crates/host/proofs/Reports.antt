-- Reports: a law for each way out of the host's three functions. Assumes nothing.
use Prim.Native.Nat.{ℕ, ◌+◌, ◌*◌, ◌≤◌, ◌<◌, ◌^◌}
use mathlib.Core.Path.{◌≡◌, refl, sym, ap, ◌∙◌}
use mathlib.Core.Bool.{Bool, true, false, cond}
use mathlib.Core.List.{List}
use native.Mathlib.Omega.{arith}
use lib.ListN.{length, get_or}
use lib.Dec.{ltb}
use mir.Val.{Fits}
use mir.Syntax.{w8}
use borrow.Author.Tests.{ne_eqb}
use Rattle.std.specs.Prelude.{Result, Ok, Err}
use Rattle.flows.specs.declared.Answer.{Answer}
use Rattle.flows.specs.declared.Cause.TheVariants.{ShortBuffer}
use Rattle.flows.specs.declared.Figures.{Figures}
use Rattle.flows.specs.declared.Refusal.{Refusal}
use Rattle.flows.specs.declared.Table.{Table}
use Rattle.flows.specs.Refusals.{place_in}
use Rattle.flows.proofs.Passed.{each_member}
use Rattle.records.specs.Bodies.{Bytes, TypedLine}
use Rattle.records.specs.Rows.{size_written}
use Rattle.records.proofs.RoundTrip.{bytes_fit}
use Rattle.lines.specs.declared.Reading.{Reading}
use Rattle.lines.specs.Reports.{lines_in, asked_in}
use Rattle.lines.specs.Reading.{read_report}
use Rattle.lines.specs.Writing.{report_length, report_written, report_after}
use Rattle.lines.specs.Demands.{InOrder, ReportAsked}
use Rattle.lines.proofs.Arrays.{lines_of}
use Rattle.lines.proofs.Unread.{place_inside}
use Rattle.lines.proofs.Promises.{read_promise, ask_promise}
use Rattle.table.specs.Calls.{Asked}
use Rattle.plans.specs.Plans.{plan_answer}
use Rattle.plans.proofs.Trips.{answer_made}
use Rattle.reports.specs.Reports.{table_lines, table_report}
use Rattle.reports.proofs.Promises.{of_promise}
use Rattle.host.specs.Host.{code_of, outcome_code, written_code, write_code, write_buffer, report_code, figure_of, figure_in, report_figure}

-- ---- a figure
module _ (g : Figures) (figure : ℕ) where
  pub figure_bound : figure ≡ 1 → g.bound + 1 ≡ figure_of g figure
  unfolding figure_of
  figure_bound h = rw h

  pub figure_jitter : figure ≡ 2 → g.jitter + 1 ≡ figure_of g figure
  unfolding figure_of
  figure_jitter h = rw h

  pub figure_busy : figure ≡ 3 → g.busy + 1 ≡ figure_of g figure
  unfolding figure_of
  figure_busy h = rw h

  pub figure_none : (figure ≡ 1 → ⊥) → (figure ≡ 2 → ⊥) → (figure ≡ 3 → ⊥) → 0 ≡ figure_of g figure
  unfolding figure_of
  figure_none a b c = rw (ne_eqb _ _ a, ne_eqb _ _ b, ne_eqb _ _ c)

-- ---- what was written
module _ (w : Result ℕ Refusal) (h : written_code w < 2 ^ 64) where
  pub length_fits : (n : ℕ) → w ≡ Ok n → 256 * n < 2 ^ 64
  length_fits n e = rw e at h

  pub place_fits : (x : Refusal) → w ≡ Err x → x.place < 2 ^ 48
  place_fits x e = let g : code_of x < 2 ^ 64 = rw e at h in omega arith

pub wrote-length : (w : Result ℕ Refusal) (n : ℕ) → w ≡ Ok n → 256 * n ≡ written_code w
wrote-length w n e = rw e

pub wrote_refusal : (w : Result ℕ Refusal) (x : Refusal) (r : ℕ) → w ≡ Err x → r ≡ code_of x → r ≡ written_code w
wrote_refusal w x r e h = rw e h

module _ (b : List ℕ) (u : Bytes b) where
  abbrev table : Table
  table = (plan_answer b).table

  few : length (table_lines table) ≤ 16
  few = rw (lines_of (table_lines table)) at (of_promise table (table_report table) refl (answer_made b u)).listable.count

  code-small : (space : ℕ) → written_code (report_written space (length (table_lines table))) < 2 ^ 64
  unfolding size_written
  code-small space = go (ltb space (report_length (length (table_lines table))))
    where
      go : (p : Bool) → written_code (cond p (Err (record { cause = ShortBuffer; place = 0 })) (Ok (report_length (length (table_lines table))))) < 2 ^ 64
      go true = omega arith
      go false = omega (arith, few)

module _ (b old : List ℕ) (a : Answer) (e : a ≡ plan_answer b) where
  module _ (x : Refusal) (h : a.outcome ≡ Err x) where
    pub refused_code : (r : ℕ) → r ≡ code_of x → r ≡ write_code b (length old)
    unfolding write_code
    refused_code r g = rw (← e, h) g

    pub refused_buffer : old ≡ write_buffer b old
    unfolding write_buffer
    refused_buffer = rw (← e, h)

  module _ (y : Unit {0}) (h : a.outcome ≡ Ok y) (w : Result ℕ Refusal) where
    pub written_fits : ((k : ℕ) → Fits w8 (get_or b k 0)) → w ≡ report_written (length old) (length (table_lines a.table)) → written_code w < 2 ^ 64
    written_fits f g = rw (g, e) (code-small b (bytes_fit b f) (length old))

    pub written_coded : (r : ℕ) → w ≡ report_written (length old) (length (table_lines a.table)) → r ≡ written_code w → r ≡ write_code b (length old)
    unfolding write_code
    written_coded r g j = rw (← e, h, ← g) j

    pub written_buffer : (new : List ℕ) → new ≡ report_after (table_lines a.table) old → new ≡ write_buffer b old
    unfolding write_buffer
    written_buffer new g = rw (← e, h) g

-- ---- a report's refusal
module _ (b : List ℕ) (a : Reading) (e : a ≡ read_report b) where
  pub report_fits : ((k : ℕ) → Fits w8 (get_or b k 0)) → place_in a.outcome < 2 ^ 48
  report_fits f = rw e (omega (arith, (place_inside b (bytes_fit b f)).place))

  pub report_coded : (r : ℕ) → r ≡ outcome_code a.outcome → r ≡ report_code b
  unfolding report_code
  report_coded r h = h ∙ ap (λ (a : Reading). outcome_code a.outcome) e

-- ---- a report's figure
module _ (b : List ℕ) (f : (k : ℕ) → Fits w8 (get_or b k 0)) where
  pub order : InOrder (read_report b).report
  order = (read_promise b f (read_report b) refl).in_order

  pub asks : (number : ℕ) → ReportAsked (read_report b).report number (asked_in (lines_in (read_report b).report) number)
  asks number = ask_promise (read_report b).report number _ refl order

  pub far_figure : (number figure : ℕ) → 255 < number → 0 ≡ report_figure b number figure
  unfolding report_figure
  far_figure number figure h =
      sym (ap (λ (a : Asked). figure_in a figure)
      ((asks number).absent (λ l m q. omega (arith, (each_member TypedLine (lines_in (read_report b).report) order.listable.typed m).number))))

pub figured : (b : List ℕ) (reading : Reading) (a : Asked) (number n figure r : ℕ) → reading ≡ read_report b → n ≡ number → a ≡ asked_in (lines_in reading.report) n →
    r ≡ figure_in a figure → r ≡ report_figure b number figure
unfolding report_figure
figured b reading a number n figure r e g h i =
    i ∙ ap (λ (q : Asked). figure_in q figure) (h ∙ ap (λ (z : Reading). asked_in (lines_in z.report) n) e ∙ ap (asked_in (lines_in (read_report b).report)) g)
