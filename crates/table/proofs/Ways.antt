-- A law for each way out of a call. Assumes nothing.
use Prim.Native.Nat.{ℕ, ◌<◌}
use mathlib.Core.Path.{◌≡◌, sym, ap, ◌∙◌, subst}
use mathlib.Core.Bool.{Bool, true, false, not, false≢true}
use mathlib.Core.List.{List}
use native.Mathlib.Omega.{arith}
use lib.ListN.{length, get_or, length-take}
use Rattle.std.specs.Prelude.{Option, Some, None, is_some, Ok, Err}
use Rattle.rules.specs.Valid.{Valid}
use Rattle.flows.specs.declared.Flow.{Flow}
use Rattle.flows.specs.declared.Figures.{Figures}
use Rattle.flows.specs.declared.Row.{Row}
use Rattle.flows.specs.declared.Table.{Table}
use Rattle.flows.specs.declared.Refusal.{Refusal}
use Rattle.flows.specs.declared.Answer.{Answer}
use Rattle.flows.specs.declared.Cause.{Cause}
use Rattle.flows.specs.declared.Cause.TheVariants.{Absent}
use Rattle.flows.specs.Refusals.{Ruling, accepted}
use Rattle.flows.specs.Lists.{most_flows, no_flow, held, row_of, net_of, net_from}
use Rattle.flows.specs.Tests.{delay_cause}
use Rattle.flows.specs.WellFormed.{Typed}
use Rattle.row.specs.Rows.{found_in, without, inserted, entry_cause}
use Rattle.row.proofs.Arrays.{get_d_any, held-row_of}
use Rattle.row.proofs.Sets.{found-flow, enters}
use Rattle.row.proofs.Valid.{readable_valid}
use Rattle.engine.specs.Verdicts.{Verdict, figures_in, no_figures, verdict_of}
use Rattle.table.specs.Calls.{Asked, empty_table, answered, unless, fresh_answer, holding, decided, judged_row, admitted, withdrawn_by, withdrawn, asked_by, asked_for}
use Rattle.table.specs.Made.{Made}
use Rattle.table.proofs.Kept.{admit_row, admit_kept, withdraw_kept, made-right}

-- ---- fresh
module _ (lmin lmax : ℕ) (s : Ruling) (e : s ≡ delay_cause lmin lmax) (r : Answer) (t : Table) where
  pub fresh_refused : (c : Cause) → s ≡ Err c → t ≡ empty_table 0 0 → r ≡ answered (Err c) t → r ≡ fresh_answer lmin lmax
  unfolding fresh_answer unless
  fresh_refused c h i j = let g : delay_cause lmin lmax ≡ Err c = sym e ∙ h in j ∙ ap (answered (Err c)) i ∙ rw g

  pub fresh_accepted : (x : Unit {0}) → s ≡ Ok x → t ≡ empty_table lmin lmax → r ≡ answered accepted t → r ≡ fresh_answer lmin lmax
  unfolding fresh_answer unless
  fresh_accepted x h i j = let g : delay_cause lmin lmax ≡ accepted = sym e ∙ h in j ∙ ap (answered accepted) i ∙ rw g

row_valid_net : (lmin lmax : ℕ) (fs : List Flow) (row : Row) → row ≡ row_of fs → Valid (net_from lmin lmax fs) → Valid (net_of lmin lmax row)
row_valid_net lmin lmax fs row e v = subst (λ (l : List Flow). Valid (net_from lmin lmax l)) (sym (ap held e ∙ held-row_of fs)) v

-- ---- admit
module _ (t : Table) (f : Flow) (u : Typed f) (s : Ruling) (e : s ≡ entry_cause (held t.row) f) (r : Answer) where
  pub admit_refused : (c : Cause) → s ≡ Err c → r ≡ answered (Err c) t → Made t → r ≡ admitted t f
  unfolding admitted unless
  admit_refused c h j m = let g : entry_cause (held t.row) f ≡ Err c = sym e ∙ h in j ∙ rw g

  pub admit_judged : (x : Unit {0}) (larger : Row) (v : Verdict) → s ≡ Ok x → larger ≡ inserted t.row f →
      (Valid (net_of t.lmin t.lmax larger) → v ≡ verdict_of t.lmin t.lmax larger) → r ≡ decided t larger v → Made t → r ≡ admitted t f
  unfolding admitted unless
  admit_judged x larger v h i k j m =
      let c : entry_cause (held t.row) f ≡ accepted = sym e ∙ h in
      let n = enters (held t.row) f u c in
      let valid = row_valid_net t.lmin t.lmax _ larger (i ∙ admit_row t f n) (readable_valid t.lmin t.lmax _ (admit_kept t f n (made-right t m).set u)) in
      j ∙ ap (decided t larger) (k valid) ∙ ap (λ (row : Row). decided t row (judged_row t row)) i ∙ rw c

-- ---- withdraw
module _ (t : Table) (number : ℕ) where
  none_withdrawn : (found : Option ℕ) → found ≡ found_in (held t.row) number → is_some found ≡ false → answered (Err Absent) t ≡ withdrawn t number
  unfolding withdrawn withdrawn_by
  none_withdrawn None e n = ap (withdrawn_by t number) e
  none_withdrawn (Some place) e n = absurd (false≢true (sym n))

  one-withdrawn : (found : Option ℕ) → found ≡ found_in (held t.row) number → is_some found ≡ true → (row : Row) → row ≡ row_of (without number (held t.row)) →
      answered accepted (holding t row (figures_in (judged_row t row))) ≡ withdrawn t number
  unfolding withdrawn withdrawn_by
  one-withdrawn None e n row i = absurd (false≢true n)
  one-withdrawn (Some place) e n row i =
      ap (λ (s : Row). answered accepted (holding t s (figures_in (judged_row t s)))) i ∙ ap (withdrawn_by t number) e

  module _ (found : Option ℕ) (e : found ≡ found_in (held t.row) number) (b : Bool) (g : is_some found ≡ not b) (r : Answer) where
    pub withdraw_absent : b ≡ true → r ≡ answered (Err Absent) t → Made t → r ≡ withdrawn t number
    withdraw_absent h j m = j ∙ none_withdrawn found e (g ∙ ap not h)

    pub withdraw_judged : (smaller : Row) (v : Verdict) (figures : List Figures) (u : Table) → b ≡ false → smaller ≡ row_of (without number (held t.row)) →
        (Valid (net_of t.lmin t.lmax smaller) → v ≡ verdict_of t.lmin t.lmax smaller) → figures ≡ figures_in v → u ≡ holding t smaller figures →
        r ≡ answered accepted u → Made t → r ≡ withdrawn t number
    withdraw_judged smaller v figures u h i k q l j m =
        let valid = row_valid_net t.lmin t.lmax _ smaller i (readable_valid t.lmin t.lmax _ (withdraw_kept t (made-right t m) number)) in
        j ∙ ap (answered accepted) (l ∙ ap (holding t smaller) (q ∙ ap figures_in (k valid))) ∙ one-withdrawn found e (g ∙ ap not h) smaller i

-- ---- ask
module _ (t : Table) (number : ℕ) (found : Option ℕ) (e : found ≡ found_in (held t.row) number) where
  pub ask_absent : (q : Refusal) → found ≡ None → q ≡ record { cause = Absent; place = 0 } → Err q ≡ asked_for t number
  unfolding asked_for asked_by
  ask_absent q h i = ap (λ p. let a : Asked = Err p in a) i ∙ ap (asked_by t) (sym h ∙ e)

  pub ask_within : (place : ℕ) → found ≡ Some place → length t.row.flows ≡ most_flows → place < most_flows
  unfolding held
  ask_within place h l =
      let p = (found-flow (held t.row) number place no_flow (sym e ∙ h)).0 in
      omega (arith, p, length-take t.row.count t.row.flows)

  pub ask_present : (place : ℕ) (d : Figures) → found ≡ Some place → length t.row.flows ≡ most_flows → length t.figures ≡ most_flows →
      Ok (get_or t.figures place d) ≡ asked_for t number
  unfolding asked_for asked_by
  ask_present place d h l k =
      let w = ask_within place h l in
      ap (λ g. let a : Asked = Ok g in a) (get_d_any t.figures place d no_figures (omega arith)) ∙ ap (asked_by t) (sym h ∙ e)
