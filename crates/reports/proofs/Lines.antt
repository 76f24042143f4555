-- The lines of a table's flows and figures: as a loop makes them, and what asking them gives.
use Prim.Native.Nat.{ℕ, zero, suc, ◌+◌, ◌≤◌, ◌<◌}
use mathlib.Core.Path.{◌≡◌, refl, sym, ap, ◌∙◌}
use mathlib.Core.Bool.{Bool, true, false, cond}
use mathlib.Core.List.{List, [], ◌∷◌, ◌++◌}
use native.Mathlib.Numerals.{add-one}
use native.Mathlib.Omega.{arith}
use lib.ListN.{length, get_or, take}
use lib.Seq.{take-suc, take_all, length-take-le}
use lib.Dec.{eqb, ltb}
use borrow.Author.Tests.{lt-ltb, le-ltb, ltb-true, ltb-false}
use Rattle.flows.specs.declared.Flow.{Flow}
use Rattle.flows.specs.declared.Figures.{Figures}
use Rattle.flows.specs.declared.Row.{Row}
use Rattle.std.specs.Prelude.{Option, Some, None, Ok, Err}
use Rattle.flows.specs.declared.Cause.TheVariants.{Absent}
use Rattle.flows.specs.Lists.{most_flows, held}
use Rattle.table.specs.Calls.{Asked}
use Rattle.row.specs.Rows.{first_of, place_of, found_in}
use Rattle.row.proofs.Arrays.{held_at}
use Rattle.records.specs.declared.Line.{Line}
use Rattle.engine.specs.Verdicts.{no_figures}
use Rattle.lines.specs.declared.Report.{Report}
use Rattle.lines.specs.Reports.{no_line, report_of, with_line, asked_in}
use Rattle.lines.proofs.Arrays.{append_list}
use Rattle.reports.specs.Reports.{lines_from}

-- ---- a line for each flow
pub lines-count : (fs : List Flow) (gs : List Figures) → length fs ≤ length gs → length (lines_from fs gs) ≡ length fs
unfolding lines_from
lines-count [] gs h = refl
lines-count (f ∷ fs) [] h = absurd (omega arith)
lines-count (f ∷ fs) (g ∷ gs) h = ap suc (lines-count fs gs (omega arith))

line_of : (fs : List Flow) (gs : List Figures) (k : ℕ) (d : Flow) (e : Figures) → k < length fs → length fs ≤ length gs →
    get_or (lines_from fs gs) k no_line ≡ record { number = (get_or fs k d).number; figures = get_or gs k e }
unfolding lines_from
line_of [] gs k d e h g = absurd (omega arith)
line_of (f ∷ fs) [] k d e h g = absurd (omega arith)
line_of (f ∷ fs) (x ∷ gs) zero d e h g = refl
line_of (f ∷ fs) (x ∷ gs) (suc k) d e h g = line_of fs gs k d e (omega arith) (omega arith)

-- ---- the loop
module _ (row : Row) (gs : List Figures) (len : length row.flows ≡ most_flows) (long : length gs ≡ most_flows) (n : ℕ) (e : n ≡ length (held row)) (most : n ≤ most_flows) where
  abbrev ls : List Line
  ls = lines_from (held row) gs

  all : length ls ≡ n
  all = lines-count (held row) gs (omega arith) ∙ sym e

  pub more : (report next : Report) (k : ℕ) (d : Flow) (x : Figures) → k < n → report ≡ report_of (take k ls) →
      next ≡ with_line report (record { number = (get_or row.flows k d).number; figures = get_or gs k x }) → next ≡ report_of (take (k + 1) ls)
  more report next k d x h g i =
      let l : Line = record { number = (get_or row.flows k d).number; figures = get_or gs k x } in
      let j : get_or ls k no_line ≡ l =
      line_of (held row) gs k d x (omega arith) (omega arith) ∙
      ap (λ (f : Flow). record { number = f.number; figures = get_or gs k x }) (held_at row len k d (omega arith)) in
      let t : take (k + 1) ls ≡ take k ls ++ (l ∷ []) =
      rw add-one (take-suc ls k no_line (omega (arith, all)) ∙ ap (λ (m : Line). take k ls ++ (m ∷ [])) j) in
      i ∙ ap (λ (r : Report). with_line r l) g ∙ append_list (take k ls) l (omega (arith, length-take-le k ls (omega (arith, all)))) ∙ ap report_of (sym t)

  pub done : (report : Report) (k : ℕ) → n ≤ k → report ≡ report_of (take k ls) → report ≡ report_of ls
  done report k h g = g ∙ ap report_of (take_all k ls (omega (arith, all)))

-- ---- asking
-- what a table with these figures gives for a place
abbrev pub shown_at : List Figures → Option ℕ → Asked
shown_at gs None = Err (record { cause = Absent; place = 0 })
shown_at gs (Some place) = Ok (get_or gs place no_figures)

shifted : (g : Figures) (gs : List Figures) (p n : ℕ) →
    shown_at gs (cond (ltb p n) (Some p) None) ≡ shown_at (g ∷ gs) (cond (ltb (suc p) (suc n)) (Some (suc p)) None)
shifted g gs p n = go (ltb p n) refl
  where
    go : (q : Bool) → ltb p n ≡ q → shown_at gs (cond (ltb p n) (Some p) None) ≡ shown_at (g ∷ gs) (cond (ltb (suc p) (suc n)) (Some (suc p)) None)
    go true e = let h = ltb-true p n e in rw (e, lt-ltb (suc p) (suc n) (omega arith))
    go false e = let h = ltb-false p n e in rw (e, le-ltb (suc p) (suc n) (omega arith))

pub asks_alike : (fs : List Flow) (gs : List Figures) (number : ℕ) → length fs ≤ length gs → asked_in (lines_from fs gs) number ≡ shown_at gs (found_in fs number)
unfolding asked_in lines_from found_in first_of
asks_alike [] gs number h = refl
asks_alike (f ∷ fs) [] number h = absurd (omega arith)
asks_alike (f ∷ fs) (g ∷ gs) number h = go (eqb f.number number) (asks_alike fs gs number (omega arith))
  where
    go : (p : Bool) → asked_in (lines_from fs gs) number ≡ shown_at gs (found_in fs number) →
        cond p (Ok g) (asked_in (lines_from fs gs) number) ≡
        shown_at (g ∷ gs) (cond (ltb (cond p 0 (suc (place_of number fs))) (length (f ∷ fs))) (Some (cond p 0 (suc (place_of number fs)))) None)
    go true ih = rw (lt-ltb 0 (length (f ∷ fs)) (omega arith))
    go false ih = ih ∙ shifted g gs (place_of number fs) (length fs)
