-- Which refusal an admission gets: each from 2 to 10 exactly when the rules say so; past 2 to 7, one exactly if the enlarged set is unfit. Assumes nothing.
use Prim.Native.Nat.{ℕ, ◌≤◌}
use mathlib.Core.Path.{◌≡◌, refl, sym, ap, ◌∙◌, subst}
use mathlib.Core.Bool.{Bool, true, false}
use mathlib.Core.List.Sublistᴰ
use native.Mathlib.Omega.{arith}
use Rattle.rules.specs.Net as net
use Rattle.rules.specs.Formula.{Arrivals}
use Rattle.rules.specs.Meaning.{Here, IsBound, LeastSettled, Judged, applies, passes, unsettled, settled}
use Rattle.rules.specs.Valid.{Valid}
use Rattle.rules.specs.Judge.{judged}
use Rattle.rules.proofs.Judge.{judged_is, judged_unique}
use Rattle.rules.proofs.Withdraw.{withdraw_bound}
use Rattle.flows.specs.declared.Flow.{Flow}
use Rattle.flows.specs.declared.Table.{Table}
use Rattle.flows.specs.declared.Answer.{Answer}
use Rattle.flows.specs.Refusals.{Ruling, accepted, accepted_by, cause_in}
use Rattle.flows.specs.Lists.{held, row_of}
use Rattle.flows.specs.WellFormed.{Exactly, Exact, Typed}
use Rattle.flows.proofs.Causes.{accepted_only, not_accepted, refused-never, cause_at}
use Rattle.flows.proofs.Passed.{exact_from}
use Rattle.row.specs.Rows.{insert_sorted, entry_cause}
use Rattle.row.specs.Sets.{Enters}
use Rattle.row.proofs.Sets.{entry_exact, enters, entered}
use Rattle.row.proofs.Valid.{readable_valid}
use Rattle.engine.specs.Verdicts.{ruling_of, verdict_from}
use Rattle.table.specs.Calls.{answered, unless, admitted}
use Rattle.table.specs.Made.{Made}
use Rattle.table.specs.Demands.{enlarged_net, CrossingPermitted, Unfit, no_busy-length, not-settled, past_deadline, OfAdmission, by-entry, by-set}
use Rattle.table.proofs.Nets.{accepting}
use Rattle.table.proofs.Kept.{admit_kept, admit_decided, made-right}
use Rattle.table.proofs.Calls.{decided_cause, admit_done}

module _ (N : net.Net) (v : Valid N) where
  bound-below : (S U : Arrivals) → LeastSettled N S → LeastSettled N U → (i : net.Flow) → Here N i → (b c : ℕ) → IsBound N i S b → IsBound N i U c → b ≤ c
  bound-below S U l k i m b c p q =
      withdraw_bound N N refl refl (Sublistᴰ.refl N.flows) v S U (l.lowest U k.settled) i m b c p q

  faults : CrossingPermitted N → (w : net.Judgement) → Judged N w → (ruling_of (verdict_from w) ≡ accepted → ⊥) → Unfit N
  unfolding verdict_from
  faults placed w (applies n a) never = absurd (a.fault (placed a.flow a.here))
  faults placed w (passes x p (applies n a)) never = no_busy-length a.flow a.here a.fault
  faults placed w (passes x p (passes y q (unsettled u))) never = not-settled u
  faults placed w (passes x p (passes y q (settled z S f l r (applies n a)))) never =
      past_deadline S a.flow (f a.flow).bound l a.here (r a.flow a.here).bound a.fault
  faults placed w (passes x p (passes y q (settled z S f l r (passes u d g)))) never = absurd (never (ap (λ (j : net.Judgement). ruling_of (verdict_from j)) g))

  clear : Unfit N → (gs : _) → judged N ≡ net.Given gs → ⊥
  clear (no_busy-length i m n) gs e = let k = accepting N (judged N) gs e (judged_is N v) in n _ (k.figures i m).busy
  clear (not-settled u) gs e = let k = accepting N (judged N) gs e (judged_is N v) in u _ k.least.settled
  clear (past_deadline S i b l m p d) gs e =
      let k = accepting N (judged N) gs e (judged_is N v) in
      omega (arith, d, k.timely i m, bound-below S k.arrivals l k.least i m b _ p (k.figures i m).bound)

module _ (t : Table) (made : Made t) (f : Flow) (u : Typed f) where
  abbrev N : net.Net
  N = enlarged_net t f

  module _ (n : Enters (held t.row) f) where
    enlarged-valid : Valid N
    enlarged-valid = readable_valid t.lmin t.lmax (insert_sorted f (held t.row)) (admit_kept t f n (made-right t made).set u)

    set_cause : cause_in (admitted t f).outcome ≡ ruling_of (verdict_from (judged N))
    set_cause =
        ap (λ (a : Answer). cause_in a.outcome) (admit_decided t f n (entered (held t.row) f u n)) ∙
        decided_cause t (row_of (insert_sorted f (held t.row))) (verdict_from (judged N))

    -- Refused exactly if a flow has no busy length, or no arrival bounds are settled, or a bound is past its deadline
    pub refused_exactly : CrossingPermitted N → Exactly (cause_in (admitted t f).outcome ≡ accepted → ⊥) (Unfit N)
    refused_exactly placed = (
      λ never. faults N enlarged-valid placed (judged N) (judged_is N enlarged-valid) (λ h. never (set_cause ∙ h)),
      λ bad a. let d = admit_done t f u a in clear N enlarged-valid bad d.givens d.judgement,
    )

  -- Each refusal from 2 to 10 is given exactly when the rules say so, with the least flow at fault
  entry_cause_lem : (entry_cause (held t.row) f ≡ accepted → ⊥) → cause_in (admitted t f).outcome ≡ entry_cause (held t.row) f
  unfolding admitted unless answered
  entry_cause_lem never = rw (not_accepted (entry_cause (held t.row) f) never) (cause_at _ 0)

  of_admission : OfAdmission t f (cause_in (admitted t f).outcome)
  of_admission = go (accepted_by (entry_cause (held t.row) f)) refl
    where
      go : (b : Bool) → accepted_by (entry_cause (held t.row) f) ≡ b → OfAdmission t f (cause_in (admitted t f).outcome)
      go true e =
          let n = enters (held t.row) f u (accepted_only (entry_cause (held t.row) f) e) in
          subst (OfAdmission t f) (sym (set_cause n)) (by-set (judged N) n (judged_is N (enlarged-valid n)))
      go false e =
          let never = refused-never (entry_cause (held t.row) f) e in
          subst (OfAdmission t f) (sym (entry_cause_lem never)) (by-entry _ never ((entry_exact (held t.row) f u _).0 refl))

  admission-only : (c : Ruling) → OfAdmission t f c → c ≡ cause_in (admitted t f).outcome
  admission-only c (by-entry d never o) =
      let e = (entry_exact (held t.row) f u d).1 o in
      sym (entry_cause_lem (λ h. never (sym e ∙ h)) ∙ e)
  admission-only c (by-set v n j) =
      ap (λ (w : net.Judgement). ruling_of (verdict_from w)) (judged_unique N (enlarged-valid n) v (judged N) j (judged_is N (enlarged-valid n))) ∙ sym (set_cause n)

  pub admission_exact : Exact (cause_in (admitted t f).outcome) (OfAdmission t f)
  admission_exact = exact_from (OfAdmission t f) (cause_in (admitted t f).outcome) of_admission admission-only
