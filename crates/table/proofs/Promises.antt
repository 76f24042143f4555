-- What each call promises of a table that calls made: the demands, from the equations. Assumes nothing.
use Prim.Native.Nat.{ℕ}
use mathlib.Core.Path.{◌≡◌, refl, sym, ap, ◌∙◌, subst}
use mathlib.Core.Bool.{Bool, true, false, cond}
use mathlib.Core.Logic.{⊎_elim}
use Rattle.std.specs.Prelude.{Option, Some, None}
use Rattle.flows.specs.declared.Flow.{Flow}
use Rattle.flows.specs.declared.Table.{Table}
use Rattle.flows.specs.declared.Answer.{Answer}
use Rattle.flows.specs.Refusals.{accepted, accepted_by, cause_in, place_in}
use Rattle.flows.specs.Lists.{held}
use Rattle.flows.specs.Tests.{delay_cause}
use Rattle.flows.specs.WellFormed.{Typed}
use Rattle.flows.proofs.Causes.{accepted_only, refused-never, cause_at, place_none}
use Rattle.flows.proofs.Passed.{delays_given}
use Rattle.row.specs.Rows.{found_in, inserted, entry_cause}
use Rattle.engine.specs.Verdicts.{ruling_of, figures_in}
use Rattle.table.specs.Calls.{Asked, empty_table, answered, unless, fresh_answer, holding, decided, judged_row, admitted, withdrawn_by, withdrawn, asked_for}
use Rattle.table.specs.Made.{Made, by_fresh, by_admit, by_withdraw}
use Rattle.table.specs.Demands.{Present, Stored, Sound, SameLinks, Freshly, Admitting, Gone, Withdrawing, Asking}
use Rattle.table.proofs.Calls.{none_present, admit_has, admit_keeps, admit_only, admit_old, withdraw_refused, ask_refused}
use Rattle.table.proofs.Figures.{made-figured}
use Rattle.table.proofs.Sets.{equal_tables, withdraw_admit}
use Rattle.table.proofs.Refusals.{refused_exactly, admission_exact}
use Rattle.table.proofs.Withdrawals.{withdraw_succeeds, withdraw_keeps, withdraw_only, withdraw_lowers}

pub made-sound : (t : Table) → Made t → Sound t
made-sound t m = record { made = m; figured = made-figured t m; only = λ u n e. equal_tables t u m n e }

-- ---- fresh
module _ (lmin lmax : ℕ) where
  -- the answer, by whether the link delays are accepted
  abbrev fresh_by : Bool → Answer
  fresh_by b = cond b (answered accepted (empty_table lmin lmax)) (answered (delay_cause lmin lmax) (empty_table 0 0))

  fresh_cause : (b : Bool) → accepted_by (delay_cause lmin lmax) ≡ b → cause_in (fresh_by b).outcome ≡ delay_cause lmin lmax
  unfolding answered
  fresh_cause true e = sym (accepted_only (delay_cause lmin lmax) e)
  fresh_cause false e = cause_at _ 0

  fresh-place : (b : Bool) → place_in (fresh_by b).outcome ≡ 0
  unfolding answered
  fresh-place true = refl
  fresh-place false = place_none _

  fresh_empty : (b : Bool) (f : Flow) → Present (fresh_by b).table f → ⊥
  unfolding answered
  fresh_empty true f p = none_present lmin lmax f p
  fresh_empty false f p = none_present 0 0 f p

  fresh-links : (b : Bool) → accepted_by (delay_cause lmin lmax) ≡ b → cause_in (fresh_by b).outcome ≡ accepted → ((fresh_by b).table.lmin ≡ lmin) × ((fresh_by b).table.lmax ≡ lmax)
  unfolding answered empty_table
  fresh-links true e h = (refl, refl)
  fresh-links false e h = absurd (refused-never (delay_cause lmin lmax) e (sym (cause_at _ 0) ∙ h))

  fresh-none : (b : Bool) → (cause_in (fresh_by b).outcome ≡ accepted → ⊥) → ((fresh_by b).table.lmin ≡ 0) × ((fresh_by b).table.lmax ≡ 0)
  unfolding answered empty_table
  fresh-none true never = absurd (never refl)
  fresh-none false never = (refl, refl)

  freshly : Freshly lmin lmax (fresh_answer lmin lmax)
  unfolding fresh_answer unless
  freshly =
      let b = accepted_by (delay_cause lmin lmax) in
      record {
        cause = delays_given lmin lmax (cause_in (fresh_by b).outcome) (fresh_cause b refl);
        place = fresh-place b;
        empty = fresh_empty b;
        accepted = fresh-links b refl;
        refused = fresh-none b;
        sound = made-sound (fresh_answer lmin lmax).table (by_fresh lmin lmax);
      }

  pub fresh_promise : (r : Answer) → r ≡ fresh_answer lmin lmax → Freshly lmin lmax r
  fresh_promise r e = subst (Freshly lmin lmax) (sym e) freshly

-- ---- admit
module _ (t : Table) (f : Flow) where
  -- the answer, by whether the flow and the enlarged set are accepted
  abbrev admitted_by : Bool → Bool → Answer
  admitted_by b d =
      let row = inserted t.row f in
      cond b (cond d (answered accepted (holding t row (figures_in (judged_row t row)))) (answered (ruling_of (judged_row t row)) t)) (answered (entry_cause (held t.row) f) t)

  admit-place : (b d : Bool) → place_in (admitted_by b d).outcome ≡ 0
  unfolding answered
  admit-place true true = refl
  admit-place true false = place_none _
  admit-place false d = place_none _

  admit-links : (b d : Bool) → SameLinks (admitted_by b d).table t
  unfolding answered holding
  admit-links true true = (refl, refl)
  admit-links true false = (refl, refl)
  admit-links false d = (refl, refl)

  admitting : Made t → Typed f → Admitting t f (admitted t f)
  unfolding admitted decided unless answered
  admitting m u =
      let b = accepted_by (entry_cause (held t.row) f) in
      let d = accepted_by (ruling_of (judged_row t (inserted t.row f))) in
      record {
        cause = admission_exact t m f u;
        place = admit-place b d;
        exactly = λ n p. refused_exactly t m f u n p;
        refused = λ never. ap (λ (a : Answer). a.table) (admit_old t f never);
        links = admit-links b d;
        present = λ a g. (λ p. admit_only t f u a g p, λ q. ⊎_elim (λ (e : g ≡ f). rw e (admit_has t f u a)) (λ (p : Present t g). admit_keeps t f u a g p) q);
        sound = made-sound (admitted t f).table (by_admit f m u);
      }

  pub admit_promise : (r : Answer) → Typed f → (Made t → r ≡ admitted t f) → Made t → Admitting t f r
  admit_promise r u e m = subst (Admitting t f) (sym (e m)) (admitting m u)

-- ---- withdraw
module _ (t : Table) (number : ℕ) where
  withdraw-place : (b : Option ℕ) → place_in (withdrawn_by t number b).outcome ≡ 0
  unfolding withdrawn_by answered
  withdraw-place None = refl
  withdraw-place (Some place) = refl

  withdraw-links : (b : Option ℕ) → SameLinks (withdrawn_by t number b).table t
  unfolding withdrawn_by answered holding
  withdraw-links None = (refl, refl)
  withdraw-links (Some place) = (refl, refl)

  gone : Made t → (f : Flow) → Present t f → Gone t f (withdrawn t f.number)
  gone m f p = record {
    succeeds = withdraw_succeeds t m f p;
    others = λ g. (λ q. withdraw_only t m f p g q, λ q. withdraw_keeps t m f p g q.0 q.1);
    lowers = withdraw_lowers t m f p;
    again = withdraw_admit t m f p;
  }

  withdrawing : Made t → Withdrawing t number (withdrawn t number)
  unfolding withdrawn answered
  withdrawing m = record {
    place = withdraw-place (found_in (held t.row) number);
    absent = λ a. let e = withdraw_refused t number a in (ap (λ (r : Answer). cause_in r.outcome) e, ap (λ (r : Answer). r.table) e);
    present = λ f p e. subst (λ (n : ℕ). Gone t f (withdrawn t n)) e (gone m f p);
    links = withdraw-links (found_in (held t.row) number);
    sound = made-sound (withdrawn t number).table (by_withdraw number m);
  }

  pub withdraw_promise : (r : Answer) → (Made t → r ≡ withdrawn t number) → Made t → Withdrawing t number r
  withdraw_promise r e m = subst (Withdrawing t number) (sym (e m)) (withdrawing m)

  -- ---- ask
  pub ask_promise : (r : Asked) → r ≡ asked_for t number → Made t → Asking t number r
  ask_promise r e m =
      let g = made-figured t m in
      record {
        absent = λ a. e ∙ ask_refused t number a;
        absent_is_11 = (refl, refl);
        arrivals = g.arrivals;
        least = g.least;
        present = λ f p h. subst (λ (q : Asked). Stored t g.arrivals f q) (ap (asked_for t) h ∙ sym e) (g.stored f p);
      }
