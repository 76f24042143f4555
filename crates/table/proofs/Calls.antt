-- What an accepted admission did, what refusals give, and that a table without flows has none. Assumes nothing.
use Prim.Native.Nat.{ℕ, zero, suc, ◌<◌}
use mathlib.Core.Path.{◌≡◌, refl, sym, ap, ◌∙◌, subst}
use mathlib.Core.Bool.{Bool, true, false, cond}
use mathlib.Core.List.Memᴰ
use mathlib.Core.List.{List, [], ◌∷◌, Memᴰ}
use mathlib.Core.Logic.{◌⊎◌}
use native.Mathlib.Omega.{arith}
use lib.ListN.{length, get_or}
use Rattle.std.specs.Prelude.{Option, Some, None, Ok, Err}
use Rattle.rules.specs.Net as net
use Rattle.rules.specs.Judge.{judged}
use Rattle.flows.specs.declared.Flow.{Flow}
use Rattle.flows.specs.declared.Row.{Row}
use Rattle.flows.specs.declared.Table.{Table}
use Rattle.flows.specs.declared.Answer.{Answer}
use Rattle.flows.specs.declared.Cause.TheVariants.{Absent}
use Rattle.flows.specs.Refusals.{Ruling, accepted, accepted_by, cause_in}
use Rattle.flows.specs.Lists.{no_flow, held, row_of}
use Rattle.flows.specs.WellFormed.{Typed}
use Rattle.flows.proofs.Causes.{accepted_only, refused-never, cause_at}
use Rattle.row.specs.Rows.{found_in, insert_sorted, inserted, entry_cause}
use Rattle.row.proofs.Arrays.{held-row_of}
use Rattle.row.specs.Sets.{Enters}
use Rattle.row.proofs.Sets.{enters, insert_has, insert-keeps, insert_only, found-flow}
use Rattle.engine.specs.Verdicts.{Verdict, ruling_of, listed, verdict_from}
use Rattle.table.specs.Calls.{empty_table, answered, unless, holding, decided, judged_row, admitted, withdrawn_by, withdrawn, asked_by, asked_for}
use Rattle.table.specs.Demands.{Present, enlarged_net}
use Rattle.table.proofs.Kept.{admit_decided}

pub decided_cause : (t : Table) (row : Row) (v : Verdict) → cause_in (decided t row v).outcome ≡ ruling_of v
unfolding decided unless answered
decided_cause t row (Ok figures) = refl
decided_cause t row (Err cause) = refl

pub record Done (t : Table) (f : Flow) : Type 0 where
  pub entered : Enters (held t.row) f
  pub givens : List net.Figures
  pub judgement : judged (enlarged_net t f) ≡ net.Given givens
  pub answer : admitted t f ≡ answered accepted (holding t (row_of (insert_sorted f (held t.row))) (listed givens))

pub admit_done : (t : Table) (f : Flow) → Typed f → cause_in (admitted t f).outcome ≡ accepted → Done t f
unfolding admitted unless answered decided verdict_from
admit_done t f u a = go (accepted_by (entry_cause (held t.row) f)) refl
  where
    next : (n : Enters (held t.row) f) (v : net.Judgement) → judged (enlarged_net t f) ≡ v →
        admitted t f ≡ decided t (row_of (insert_sorted f (held t.row))) (verdict_from v) → Done t f
    next n (net.Given gs) j e = record { entered = n; givens = gs; judgement = j; answer = e }
    next n (net.Refused k m) j e = absurd (refused-never _ refl (sym (ap (λ (r : Answer). cause_in r.outcome) e) ∙ a))

    go : (b : Bool) → accepted_by (entry_cause (held t.row) f) ≡ b → Done t f
    go true e =
        let c = accepted_only (entry_cause (held t.row) f) e in
        let n = enters (held t.row) f u c in
        next n _ refl (admit_decided t f n c)
    go false e = absurd (refused-never (entry_cause (held t.row) f) e (sym (rw e (cause_at _ 0)) ∙ a))

-- The flows present after an accepted admission: the new one and those that were
module _ (t : Table) (f : Flow) (u : Typed f) (a : cause_in (admitted t f).outcome ≡ accepted) where
  admit-held : held (admitted t f).table.row ≡ insert_sorted f (held t.row)
  unfolding answered holding
  admit-held = ap (λ (r : Answer). held r.table.row) (admit_done t f u a).answer ∙ held-row_of (insert_sorted f (held t.row))

  pub admit_has : Present (admitted t f).table f
  admit_has = rw admit-held (insert_has f (held t.row))

  pub admit_keeps : (g : Flow) → Present t g → Present (admitted t f).table g
  admit_keeps g m = rw admit-held (insert-keeps f g (held t.row) m)

  pub admit_only : (g : Flow) → Present (admitted t f).table g → (g ≡ f) ⊎ Present t g
  admit_only g m = insert_only f g (held t.row) (rw admit-held at m)

-- A refusal gives back the old table
old_table : (t u : Table) (e v : Ruling) (b d : Bool) (r : Answer) → r ≡ cond b (cond d (answered accepted u) (answered v t)) (answered e t) →
    (cause_in r.outcome ≡ accepted → ⊥) → r ≡ answered (cause_in r.outcome) t
unfolding answered
old_table t u e v true true r i never = absurd (never (ap (λ (a : Answer). cause_in a.outcome) i))
old_table t u e v true false r i never = i ∙ ap (λ (c : Ruling). answered c t) (sym (ap (λ (a : Answer). cause_in a.outcome) i ∙ cause_at v 0))
old_table t u e v false d r i never = i ∙ ap (λ (c : Ruling). answered c t) (sym (ap (λ (a : Answer). cause_in a.outcome) i ∙ cause_at e 0))

pub admit_old : (t : Table) (f : Flow) → (cause_in (admitted t f).outcome ≡ accepted → ⊥) → admitted t f ≡ answered (cause_in (admitted t f).outcome) t
unfolding admitted decided unless
admit_old t f never =
    old_table t _ _ _ (accepted_by (entry_cause (held t.row) f)) (accepted_by (ruling_of (judged_row t (inserted t.row f)))) (admitted t f) refl never

-- a table without flows
pub none_present : (lmin lmax : ℕ) (f : Flow) → Present (empty_table lmin lmax) f → ⊥
unfolding empty_table
none_present lmin lmax f p = Memᴰ.not-nil (subst (λ (l : List Flow). Memᴰ f l) (held-row_of []) p)

-- A number that is not in the table is refused with 11
member_at : (fs : List Flow) (k : ℕ) → k < length fs → Memᴰ (get_or fs k no_flow) fs
member_at [] k h = absurd (omega arith)
member_at (f ∷ fs) zero h = Memᴰ.head refl
member_at (f ∷ fs) (suc k) h = Memᴰ.tail (member_at fs k (omega arith))

module _ (t : Table) (number : ℕ) (absent : (f : Flow) → Present t f → f.number ≡ number → ⊥) where
  found-absent : found_in (held t.row) number ≡ None
  found-absent = go (found_in (held t.row) number) refl
    where
      go : (b : Option ℕ) → found_in (held t.row) number ≡ b → found_in (held t.row) number ≡ None
      go None e = e
      go (Some k) e =
          let p = found-flow (held t.row) number k no_flow e in
          absurd (absent (get_or (held t.row) k no_flow) (member_at (held t.row) k p.0) p.1)

  pub withdraw_refused : withdrawn t number ≡ answered (Err Absent) t
  unfolding withdrawn withdrawn_by
  withdraw_refused = ap (withdrawn_by t number) found-absent

  pub ask_refused : asked_for t number ≡ Err (record { cause = Absent; place = 0 })
  unfolding asked_for asked_by
  ask_refused = ap (asked_by t) found-absent
