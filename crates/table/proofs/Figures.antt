-- Every stored figure is demand 2's for the flows now present, and no bound is past its deadline. Assumes nothing.
use Prim.Native.Nat.{ℕ, zero, suc, ◌<◌}
use mathlib.Core.Path.{◌≡◌, refl, sym, ap, ◌∙◌}
use mathlib.Core.List.Memᴰ
use mathlib.Core.List.{List, [], ◌∷◌, ◌++◌, map, Memᴰ}
use native.Mathlib.Omega.{arith}
use lib.ListN.{length, get_or}
use borrow.Author.Tests.{eq-eqb, ne_eqb, lt-ltb}
use Rattle.std.specs.Prelude.{Some, Ok}
use Rattle.rules.specs.Net as net
use Rattle.rules.specs.Valid.{RisingNumbers, Valid}
use Rattle.rules.specs.Judge.{judged}
use Rattle.rules.proofs.Judge.{judged_is}
use Rattle.flows.specs.declared.Flow.{Flow}
use Rattle.flows.specs.declared.Figures.{Figures}
use Rattle.flows.specs.declared.Table.{Table}
use Rattle.flows.specs.Lists.{no_flow, held, flow_of, table_net}
use Rattle.row.specs.Rows.{first_of, place_of, found_in}
use Rattle.row.proofs.Valid.{readable_valid}
use Rattle.engine.specs.Verdicts.{no_figures, as_figures, listed}
use Rattle.table.specs.Calls.{Asked, asked_by, asked_for}
use Rattle.table.specs.Made.{Made}
use Rattle.table.specs.Demands.{Present, Figured}
use Rattle.table.proofs.Nets.{Accepting, accepting}
use Rattle.table.proofs.Kept.{Right, made-right}

-- a flow that is present is found at its place
place_of_lem : (f : Flow) (fs : List Flow) → RisingNumbers (map flow_of fs) → Memᴰ f fs →
    (place_of f.number fs < length fs) × (get_or fs (place_of f.number fs) no_flow ≡ f)
unfolding first_of
place_of_lem f [] r m = absurd (Memᴰ.not-nil m)
place_of_lem f (g ∷ gs) r (Memᴰ.head e) = rw (eq-eqb g.number f.number (ap (λ (h : Flow). h.number) (sym e))) (omega arith, sym e)
place_of_lem f (g ∷ gs) r (Memᴰ.tail m) =
    let h : g.number < f.number = r.0 (flow_of f) (Memᴰ.map flow_of m) in
    let ih = place_of_lem f gs r.1 m in
    let d : g.number ≡ f.number → ⊥ = λ e. omega arith in
    rw (ne_eqb g.number f.number d) (omega arith, ih.1)

shown_at_lem : (figure : net.Flow → net.Figures) (fs : List Flow) (rest : List Figures) (k : ℕ) → k < length fs →
    get_or (map as_figures (map figure (map flow_of fs)) ++ rest) k no_figures ≡ as_figures (figure (flow_of (get_or fs k no_flow)))
shown_at_lem figure [] rest k h = absurd (omega arith)
shown_at_lem figure (f ∷ fs) rest zero h = refl
shown_at_lem figure (f ∷ fs) rest (suc k) h = shown_at_lem figure fs rest k (omega arith)

module _ (t : Table) (r : Right t) where
  pub right_valid : Valid (table_net t)
  right_valid = readable_valid t.lmin t.lmax (held t.row) r.set

  pub right_accepting : Accepting (table_net t) r.givens
  right_accepting = accepting (table_net t) (judged (table_net t)) r.givens r.accepted (judged_is (table_net t) right_valid)

  pub found_present : (f : Flow) → Present t f → found_in (held t.row) f.number ≡ Some (place_of f.number (held t.row))
  unfolding found_in
  found_present f m = rw (lt-ltb _ _ (place_of_lem f (held t.row) right_valid.rising m).0)

  -- what is stored at a flow's place
  pub asked_figures : (f : Flow) → Present t f → asked_for t f.number ≡ Ok (as_figures (right_accepting.figure (flow_of f)))
  unfolding asked_for asked_by listed
  asked_figures f m =
      let p = place_of_lem f (held t.row) right_valid.rising m in
      let k : ℕ = place_of f.number (held t.row) in
      let e : get_or t.figures k no_figures ≡ as_figures (right_accepting.figure (flow_of (get_or (held t.row) k no_flow))) =
      ap (λ (l : List Figures). get_or l k no_figures) r.figures ∙
      ap (λ (gs : List net.Figures). get_or (listed gs) k no_figures) right_accepting.all ∙
      shown_at_lem right_accepting.figure (held t.row) _ k p.0 in
      ap (asked_by t) (found_present f m) ∙ ap (λ g. let a : Asked = Ok g in a) (e ∙ ap (λ (g : Flow). as_figures (right_accepting.figure (flow_of g))) p.1)

  pub right_figured : Figured t
  right_figured =
      let a = right_accepting in
      record {
        arrivals = a.arrivals;
        least = a.least;
        stored = λ f m. record {
          shown = as_figures (a.figure (flow_of f));
          asking = asked_figures f m;
          right = a.figures (flow_of f) (Memᴰ.map flow_of m);
          timely = a.timely (flow_of f) (Memᴰ.map flow_of m);
        };
      }

-- Tables made by calls are valid sets of the rules
pub made_valid : (t : Table) → Made t → Valid (table_net t)
made_valid t m = right_valid t (made-right t m)

-- Every stored bound, jitter and busy length is demand 2's for the flows now present; every bound is within its deadline
pub made-figured : (t : Table) → Made t → Figured t
made-figured t m = right_figured t (made-right t m)
