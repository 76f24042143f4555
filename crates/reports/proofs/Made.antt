-- The report of a table that calls made: it is asked like the table, its numbers rise, and its figures pass refusal 3.
use Prim.Native.Nat.{ℕ, ◌-◌, ◌≤◌, ◌<◌}
use mathlib.Core.Path.{◌≡◌, refl, sym, ap, ◌∙◌}
use mathlib.Core.List.{List, [], ◌∷◌, map, Memᴰ}
use mathlib.Core.Logic.{⊎_elim}
use native.Mathlib.Omega.{arith}
use lib.ListN.{length, replicate, length-append, length-map, length-replicate}
use Rattle.rules.specs.Formula.{horizon}
use Rattle.rules.proofs.Exact.{jitter_below}
use Rattle.flows.specs.declared.Flow.{Flow}
use Rattle.flows.specs.declared.Figures.{Figures}
use Rattle.flows.specs.declared.Table.{Table}
use Rattle.std.specs.Prelude.{Option, Some, None, Ok}
use Rattle.flows.specs.Lists.{most_flows, held, flow_of, table_net}
use Rattle.flows.specs.WellFormed.{Each, each_none, each_more, Typed}
use Rattle.flows.proofs.Passed.{each_member}
use Rattle.row.specs.Rows.{found_in, RisingBy, Rising, rising_none, rising-more}
use Rattle.records.specs.declared.Line.{Line}
use Rattle.records.specs.Bodies.{TypedLine}
use Rattle.engine.specs.Verdicts.{no_figures, as_figures, listed}
use Rattle.lines.specs.Reports.{asked_in}
use Rattle.lines.specs.Demands.{Possible, Listable, InOrder}
use Rattle.lines.proofs.Orders.{listed-order}
use Rattle.lines.proofs.Promises.{asked_present}
use Rattle.table.specs.Calls.{asked_by, asked_for}
use Rattle.table.specs.Made.{Made}
use Rattle.table.proofs.Kept.{made-right}
use Rattle.table.proofs.Figures.{made_valid, made-figured}
use Rattle.reports.specs.Reports.{lines_from, table_lines, table_report}
use Rattle.reports.proofs.Lines.{lines-count, shown_at, asks_alike}

each_from : {A : Type 0} (P : A → Type 0) (l : List A) → ((x : A) → Memᴰ x l → P x) → Each P l
each_from P [] h = each_none
each_from P (x ∷ l) h = each_more (h x (mathlib.Core.List.Memᴰ.head refl)) (each_from P l (λ y m. h y (mathlib.Core.List.Memᴰ.tail m)))

lines_rising : {n : ℕ} (fs : List Flow) (gs : List Figures) → Rising n fs → RisingBy (λ l. l.number) n (lines_from fs gs)
unfolding lines_from
lines_rising [] gs r = rising_none
lines_rising (f ∷ fs) [] r = rising_none
lines_rising (f ∷ fs) (g ∷ gs) (rising-more h r) = rising-more h (lines_rising fs gs r)

-- the flow that a line is of
record Of (fs : List Flow) (l : Line) : Type 0 where
  flow : Flow
  here : Memᴰ flow fs
  number : flow.number ≡ l.number

line-flow : (fs : List Flow) (gs : List Figures) (l : Line) → Memᴰ l (lines_from fs gs) → Of fs l
unfolding lines_from
line-flow [] gs l m = absurd (mathlib.Core.List.Memᴰ.not-nil m)
line-flow (f ∷ fs) [] l m = absurd (mathlib.Core.List.Memᴰ.not-nil m)
line-flow (f ∷ fs) (g ∷ gs) l m =
    ⊎_elim
    (λ (e : l ≡ record { number = f.number; figures = g }). record { flow = f; here = mathlib.Core.List.Memᴰ.head refl; number = sym (ap (λ (k : Line). k.number) e) })
    (λ (i : Memᴰ l (lines_from fs gs)). let o = line-flow fs gs l i in record { flow = o.flow; here = mathlib.Core.List.Memᴰ.tail o.here; number = o.number })
    (mathlib.Core.List.Memᴰ.cases_cons m)

module _ (t : Table) where
  shown_for : (number : ℕ) → shown_at t.figures (found_in (held t.row) number) ≡ asked_for t number
  unfolding asked_for asked_by
  shown_for number = go (found_in (held t.row) number)
    where
      go : (x : Option ℕ) → shown_at t.figures x ≡ asked_by t x
      go None = refl
      go (Some place) = refl

module _ (t : Table) (m : Made t) where
  pub long : length (held t.row) ≤ length t.figures
  unfolding listed
  long =
      let r = made-right t m in
      let gs = r.givens in
      let e = ap length r.figures in
      omega (arith, r.set.count, length-append (map as_figures gs) (replicate (most_flows - length gs) no_figures), length-map gs as_figures, length-replicate (most_flows - length gs) no_figures)

  pub asks : (number : ℕ) → asked_in (table_lines t) number ≡ asked_for t number
  asks number = asks_alike (held t.row) t.figures number long ∙ shown_for t number

  rising : RisingBy (λ l. l.number) 0 (table_lines t)
  rising = lines_rising (held t.row) t.figures (made-right t m).set.rising

  -- a line has the figures that asking the table for its flow gives
  module _ (l : Line) (h : Memᴰ l (table_lines t)) where
    of : Of (held t.row) l
    of = line-flow (held t.row) t.figures l h

    shown : asked_for t of.flow.number ≡ Ok l.figures
    shown = ap (asked_for t) of.number ∙ sym (asks l.number) ∙ asked_present (table_lines t) rising l h

    passes : Possible l.figures × TypedLine l
    unfolding horizon
    passes =
        let g = made-figured t m in
        let s = g.stored of.flow of.here in
        let v = made_valid t m in
        let i = flow_of of.flow in
        let r = v.flows i (mathlib.Core.List.Memᴰ.map flow_of of.here) in
        let a = shown in
        let b = s.asking in
        let e : l.figures ≡ s.shown = cc in
        let j : s.shown.jitter < s.shown.bound = rw s.right.jitter (jitter_below (table_net t) i v.links r g.arrivals s.shown.bound s.right.bound) in
        let u = each_member Typed (held t.row) (made-right t m).set.typed of.here in
        let d = s.timely in
        let q = s.right.busy in (
          rw e (record { bound = omega arith; busy = omega (arith, q.smallest.from); jitter = j }),
          record {
            number = rw (← of.number) u.number;
            bound = rw e (omega (arith, u.deadline));
            jitter = rw e (omega (arith, u.deadline));
            busy = rw e (omega (arith, q.within));
          },
        )

  made_listable : Listable (table_lines t)
  made_listable = record {
    rising = rising;
    count = omega (arith, lines-count (held t.row) t.figures long, (made-right t m).set.count);
    figures = each_from _ (table_lines t) (λ l h. (passes l h).0);
    typed = each_from _ (table_lines t) (λ l h. (passes l h).1);
  }

  -- the figures of a table pass 3, and its numbers rise
  pub made_order : InOrder (table_report t)
  made_order = listed-order (table_lines t) made_listable
