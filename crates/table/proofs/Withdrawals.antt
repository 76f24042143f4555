-- Withdrawing a present flow succeeds, leaves the others, and no remaining bound rises. Assumes nothing.
use Prim.Native.Nat.{◌≤◌}
use mathlib.Core.Path.{◌≡◌, sym, ap, ◌∙◌}
use mathlib.Core.List.Memᴰ
use mathlib.Core.List.{Sublistᴰ}
use native.Mathlib.Omega.{arith}
use Rattle.std.specs.Prelude.{Ok}
use Rattle.least.proofs.Fold.{sublist-map}
use Rattle.rules.proofs.Withdraw.{withdraw_bound}
use Rattle.flows.specs.declared.Flow.{Flow}
use Rattle.flows.specs.declared.Figures.{Figures}
use Rattle.flows.specs.declared.Table.{Table}
use Rattle.flows.specs.declared.Answer.{Answer}
use Rattle.flows.specs.Refusals.{accepted, cause_in}
use Rattle.flows.specs.Lists.{held, flow_of, table_net}
use Rattle.row.proofs.Sets.{without-keeps, without_only}
use Rattle.engine.specs.Verdicts.{as_figures}
use Rattle.table.specs.Calls.{Asked, answered, withdrawn, asked_for}
use Rattle.table.specs.Made.{Made}
use Rattle.table.specs.Demands.{Present}
use Rattle.table.proofs.Nets.{part_lower}
use Rattle.table.proofs.Kept.{without_part, withdraw_right, made-right}
use Rattle.table.proofs.Figures.{right_valid, right_accepting, asked_figures}
use Rattle.table.proofs.Sets.{withdraw_done, withdraw_lmin, withdraw_lmax, withdraw_held}

module _ (t : Table) (made : Made t) (f : Flow) (m : Present t f) where
  pub withdraw_succeeds : cause_in (withdrawn t f.number).outcome ≡ accepted
  unfolding answered
  withdraw_succeeds = ap (λ (a : Answer). cause_in a.outcome) (withdraw_done t (made-right t made) f m)

  pub withdraw_keeps : (g : Flow) → (g.number ≡ f.number → ⊥) → Present t g → Present (withdrawn t f.number).table g
  withdraw_keeps g d p = rw (withdraw_held t (made-right t made) f m) (without-keeps f.number g (held t.row) d p)

  pub withdraw_only : (g : Flow) → Present (withdrawn t f.number).table g → (g.number ≡ f.number → ⊥) × Present t g
  withdraw_only g p =
      let r = made-right t made in
      without_only f.number g (held t.row) r.set.rising (rw (withdraw_held t r f m) at p)

  some : Sublistᴰ (table_net (withdrawn t f.number).table).flows (table_net t).flows
  some =
      rw (withdraw_held t (made-right t made) f m) (sublist-map flow_of (without_part f.number (held t.row)))

  pub withdraw_lowers : (g : Flow) → Present (withdrawn t f.number).table g → (before after : Figures) →
      asked_for t g.number ≡ Ok before → asked_for (withdrawn t f.number).table g.number ≡ Ok after → after.bound ≤ before.bound
  withdraw_lowers g p before after e' e =
      let r = made-right t made in
      let s : Table = (withdrawn t f.number).table in
      let w = withdraw_right t r f.number in
      let p' = (withdraw_only g p).1 in
      let a' = right_accepting t r in
      let a = right_accepting s w in
      let v' = right_valid t r in
      let lmin = withdraw_lmin t r f m in
      let lmax = withdraw_lmax t r f m in
      let b =
      withdraw_bound (table_net s) (table_net t) lmin lmax some v' a.arrivals a'.arrivals
      (part_lower (table_net s) (table_net t) lmin lmax some v' r.givens a' a.arrivals a.least) (flow_of g) (Memᴰ.map flow_of p) _ _
      (a.figures (flow_of g) (Memᴰ.map flow_of p)).bound (a'.figures (flow_of g) (Memᴰ.map flow_of p')).bound in
      let x : ◌≡◌ {A = Asked} (Ok (as_figures (a.figure (flow_of g)))) (Ok after) = sym (asked_figures s w g p) ∙ e in
      let x' : ◌≡◌ {A = Asked} (Ok (as_figures (a'.figure (flow_of g)))) (Ok before) = sym (asked_figures t r g p') ∙ e' in
      let y : as_figures (a.figure (flow_of g)) ≡ after = cc in
      let y' : as_figures (a'.figure (flow_of g)) ≡ before = cc in
      omega (arith, b, ap (λ (h : Figures). h.bound) y, ap (λ (h : Figures). h.bound) y')
