-- A table is determined by its network and its set of flows; a flow withdrawn can be admitted again; any accepted set is a table that calls make. Assumes nothing.
use Prim.Native.Nat.{ℕ, zero, suc, ◌≤◌, ◌<◌}
use mathlib.Core.Path.{◌≡◌, refl, sym, ap, ◌∙◌, subst}
use mathlib.Core.Bool.{Bool, true, false, cond}
use mathlib.Core.List.{List, [], ◌∷◌, map, Memᴰ}
use mathlib.Core.Logic.{⊎_elim}
use native.Mathlib.Omega.{arith}
use lib.ListN.{length}
use lib.Dec.{eqb}
use borrow.Author.Tests.{eq-eqb, ne_eqb, lt-ltb, le-ltb}
use Rattle.rules.specs.Net as net
use Rattle.rules.specs.Valid.{RisingNumbers}
use Rattle.rules.specs.Meaning.{Here}
use Rattle.rules.specs.Judge.{judged}
use Rattle.flows.specs.declared.Flow.{Flow}
use Rattle.flows.specs.declared.Table.{Table}
use Rattle.flows.specs.declared.Answer.{Answer}
use Rattle.flows.specs.Refusals.{accepted}
use Rattle.flows.specs.Lists.{held, row_of, flow_of, net_from, table_net}
use Rattle.flows.specs.WellFormed.{Each, each_none, each_more, Typed}
use Rattle.flows.proofs.Passed.{delays_passes, each_member}
use Rattle.flows.proofs.Same.{same_flow}
use Rattle.row.specs.Rows.{insert_sorted, without}
use Rattle.row.proofs.Arrays.{held-row_of}
use Rattle.row.specs.Sets.{Enters}
use Rattle.row.proofs.Sets.{same_flows, without_only, entered}
use Rattle.engine.specs.Verdicts.{figures_in, listed, verdict_from}
use Rattle.table.specs.Calls.{empty_table, answered, unless, fresh_answer, holding, decided, judged_row, admitted, withdrawn_by, withdrawn}
use Rattle.table.specs.Made.{Made, by_fresh, by_admit}
use Rattle.table.specs.Demands.{Present, SameSet}
use Rattle.table.proofs.Kept.{Right, empty_right, admit_decided, withdraw_right, made-right}
use Rattle.table.proofs.Figures.{right_valid, found_present}

same_parts : (t u : Table) → t.lmin ≡ u.lmin → t.lmax ≡ u.lmax → t.row ≡ u.row → t.figures ≡ u.figures → t ≡ u
same_parts t u a b c d = λ x. record { lmin = a x; lmax = b x; row = c x; figures = d x }

right_same : (t u : Table) → Right t → Right u → t.lmin ≡ u.lmin → t.lmax ≡ u.lmax → held t.row ≡ held u.row → t ≡ u
right_same t u r s a b h =
    let n : net_from t.lmin t.lmax (held t.row) ≡ net_from u.lmin u.lmax (held u.row) = rw (a, b, h) in
    let j : net.Given r.givens ≡ net.Given s.givens = sym r.accepted ∙ ap judged n ∙ s.accepted in
    let g : r.givens ≡ s.givens = cc in
    same_parts t u a b (r.row ∙ ap row_of h ∙ sym s.row) (r.figures ∙ ap listed g ∙ sym s.figures)

from-map : {i : net.Flow} (fs : List Flow) → Memᴰ i (map flow_of fs) → (f : Flow) × Memᴰ f fs × (flow_of f ≡ i)
from-map [] m = absurd (mathlib.Core.List.Memᴰ.not-nil m)
from-map {i} (g ∷ gs) m =
    ⊎_elim (λ (e : i ≡ flow_of g). (g, mathlib.Core.List.Memᴰ.head refl, sym e))
    (λ (p : Memᴰ i (map flow_of gs)). let q = from-map gs p in (q.0, mathlib.Core.List.Memᴰ.tail q.1, q.2))
    (mathlib.Core.List.Memᴰ.cases_cons m)

-- a flow that both have by the rules' flow is the same in both
within : (t u : Table) → Right t → Right u → ((i : net.Flow) → Here (table_net t) i → Here (table_net u) i) → (f : Flow) → Present t f → Present u f
within t u r s h f p =
    let q = from-map (held u.row) (h (flow_of f) (mathlib.Core.List.Memᴰ.map flow_of p)) in
    let a = each_member _ (held t.row) r.set.typed p in
    let b = each_member _ (held u.row) s.set.typed q.1 in
    let v = each_member _ (held t.row) r.set.flows p in
    let w = each_member _ (held u.row) s.set.flows q.1 in
    subst (λ (g : Flow). Present u g) (same_flow q.0 f b a w v q.2) q.1

-- The same flows and link delays are the same table, in whatever order the flows were admitted. RULES, tables
pub equal_tables : (t u : Table) → Made t → Made u → SameSet (table_net t) (table_net u) → t ≡ u
equal_tables t u m n e =
    let r = made-right t m in
    let s = made-right u n in
    right_same t u r s e.lmin e.lmax
    (same_flows (held t.row) (held u.row) r.set.rising s.set.rising (within t u r s (λ i. (e.flows i).0)) (within u t s r (λ i. (e.flows i).1)))

-- ---- a flow withdrawn and admitted again
module _ {A : Type 0} {P : A → Type 0} where
  each_from : (l : List A) → ((x : A) → Memᴰ x l → P x) → Each P l
  each_from [] g = each_none
  each_from (x ∷ l) g = each_more (g x (mathlib.Core.List.Memᴰ.head refl)) (each_from l (λ y m. g y (mathlib.Core.List.Memᴰ.tail m)))

insert_first : (f : Flow) (fs : List Flow) → ((g : Flow) → Memᴰ g fs → f.number < g.number) → insert_sorted f fs ≡ f ∷ fs
unfolding insert_sorted
insert_first f [] h = refl
insert_first f (g ∷ gs) h = rw (lt-ltb f.number g.number (h g (mathlib.Core.List.Memᴰ.head refl)))

insert-without : (f : Flow) (fs : List Flow) → RisingNumbers (map flow_of fs) → Memᴰ f fs → insert_sorted f (without f.number fs) ≡ fs
unfolding insert_sorted without
insert-without f [] r m = absurd (mathlib.Core.List.Memᴰ.not-nil m)
insert-without f (g ∷ gs) r (mathlib.Core.List.Memᴰ.head e) =
    let n : f.number ≡ g.number = ap (λ (h : Flow). h.number) e in
    let first : (h : Flow) → Memᴰ h gs → f.number < h.number = λ h m. omega (arith, n, r.0 (flow_of h) (mathlib.Core.List.Memᴰ.map flow_of m)) in
    rw (eq-eqb g.number f.number (sym n)) (insert_first f gs first ∙ ap (λ (h : Flow). h ∷ gs) e)
insert-without f (g ∷ gs) r (mathlib.Core.List.Memᴰ.tail m) =
    let h : g.number < f.number = r.0 (flow_of f) (mathlib.Core.List.Memᴰ.map flow_of m) in
    let d : g.number ≡ f.number → ⊥ = λ e. omega arith in
    let o : g.number ≤ f.number = omega arith in
    rw (ne_eqb g.number f.number d, le-ltb f.number g.number o) (ap (λ (l : List Flow). g ∷ l) (insert-without f gs r.1 m))

shorter : (f : Flow) (fs : List Flow) → Memᴰ f fs → length (without f.number fs) < length fs
unfolding without
shorter f [] m = absurd (mathlib.Core.List.Memᴰ.not-nil m)
shorter f (g ∷ gs) (mathlib.Core.List.Memᴰ.head e) = rw (eq-eqb g.number f.number (ap (λ (h : Flow). h.number) (sym e))) (omega arith)
shorter f (g ∷ gs) (mathlib.Core.List.Memᴰ.tail m) = go (eqb g.number f.number) (shorter f gs m)
  where
    go : (b : Bool) → length (without f.number gs) < length gs → length (cond b gs (g ∷ without f.number gs)) < suc (length gs)
    go true ih = omega arith
    go false ih = omega arith

module _ (t : Table) (r : Right t) (f : Flow) (m : Present t f) where
  abbrev fewer : List Flow
  fewer = without f.number (held t.row)

  pub withdraw_done : withdrawn t f.number ≡ answered accepted (holding t (row_of fewer) (figures_in (judged_row t (row_of fewer))))
  unfolding withdrawn withdrawn_by
  withdraw_done = ap (withdrawn_by t f.number) (found_present t r f m)

  pub withdraw_lmin : (withdrawn t f.number).table.lmin ≡ t.lmin
  unfolding answered holding
  withdraw_lmin = ap (λ (a : Answer). a.table.lmin) withdraw_done

  pub withdraw_lmax : (withdrawn t f.number).table.lmax ≡ t.lmax
  unfolding answered holding
  withdraw_lmax = ap (λ (a : Answer). a.table.lmax) withdraw_done

  pub withdraw_held : held (withdrawn t f.number).table.row ≡ fewer
  unfolding answered holding
  withdraw_held = ap (λ (a : Answer). held a.table.row) withdraw_done ∙ held-row_of fewer

  typed : Typed f
  typed = each_member _ (held t.row) r.set.typed m

  left : Enters fewer f
  left = record {
    flow = each_member _ (held t.row) r.set.flows m;
    lacks = each_from fewer (λ g n. (without_only f.number g (held t.row) r.set.rising n).0);
    room = omega (arith, shorter f (held t.row) m, r.set.count);
  }

  readmitted : (s : Table) → s.lmin ≡ t.lmin → s.lmax ≡ t.lmax → held s.row ≡ fewer → admitted s f ≡ answered accepted t
  unfolding decided unless verdict_from answered holding
  readmitted s a b h =
      let n : Enters (held s.row) f = subst (λ l. Enters l f) (sym h) left in
      let e : insert_sorted f (held s.row) ≡ held t.row = ap (insert_sorted f) h ∙ insert-without f (held t.row) (right_valid t r).rising m in
      let j : judged (net_from s.lmin s.lmax (insert_sorted f (held s.row))) ≡ net.Given r.givens = rw (a, b, e) r.accepted in
      let u : Table = holding s (row_of (insert_sorted f (held s.row))) (listed r.givens) in
      admit_decided s f n (entered (held s.row) f typed n) ∙ ap (λ (v : net.Judgement). decided s (row_of (insert_sorted f (held s.row))) (verdict_from v)) j ∙
      ap (answered accepted) (same_parts u t a b (ap row_of e ∙ sym r.row) (sym r.figures))

  right_again : admitted (withdrawn t f.number).table f ≡ answered accepted t
  right_again = readmitted (withdrawn t f.number).table withdraw_lmin withdraw_lmax withdraw_held

-- A flow that was withdrawn is admitted again, and gives the table as it was. RULES, tables
pub withdraw_admit : (t : Table) → Made t → (f : Flow) → Present t f → admitted (withdrawn t f.number).table f ≡ answered accepted t
withdraw_admit t m f p = right_again t (made-right t m) f p

-- ---- any accepted set
right_fresh : (t : Table) → Right t → held t.row ≡ [] → t ≡ (fresh_answer t.lmin t.lmax).table
unfolding fresh_answer unless answered empty_table
right_fresh t r h =
    rw (delays_passes t.lmin t.lmax r.set.delays) (right_same t (empty_table t.lmin t.lmax) r (empty_right t.lmin t.lmax r.set.delays) refl refl (h ∙ sym (held-row_of [])))

made_in : (n : ℕ) (t : Table) → Right t → length (held t.row) ≡ n → Made t
unfolding answered without
made_in zero t r e = subst Made (sym (right_fresh t r (none (held t.row) e))) (by_fresh t.lmin t.lmax)
  where
    none : (fs : List Flow) → length fs ≡ 0 → fs ≡ []
    none [] l = refl
    none (f ∷ fs) l = absurd (omega arith)
made_in (suc n) t r e = go (held t.row) refl (λ s q l. made_in n s q l)
  where
    go : (fs : List Flow) → held t.row ≡ fs → ((s : Table) → Right s → length (held s.row) ≡ n → Made s) → Made t
    go [] h ih = absurd (omega (arith, ap length h))
    go (f ∷ fs) h ih =
        let m : Present t f = rw h (mathlib.Core.List.Memᴰ.head refl) in
        let q : held (withdrawn t f.number).table.row ≡ fs =
        withdraw_held t r f m ∙ ap (without f.number) h ∙ rw (eq-eqb f.number f.number refl) in
        let k = ih (withdrawn t f.number).table (withdraw_right t r f.number) (omega (arith, ap length q, ap length h)) in
        subst Made (ap (λ (a : Answer). a.table) (right_again t r f m)) (by_admit f k (each_member _ (held t.row) r.set.typed m))

-- A set that every refusal lets pass, with its figures, is a table that calls make
pub right_made : (t : Table) → Right t → Made t
right_made t r = made_in (length (held t.row)) t r refl
