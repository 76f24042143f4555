-- What 0 says of a flow's bound: that the plan is refused or lacks the flow. Assumes nothing.
use Prim.Native.Nat.{ℕ, ◌<◌}
use mathlib.Core.Path.{◌≡◌, refl, ap, ◌∙◌, subst}
use mathlib.Core.List.Memᴰ
use mathlib.Core.List.{List}
use native.Mathlib.Omega.{arith}
use Rattle.std.specs.Prelude.{Result, Ok, Err}
use Rattle.rules.proofs.Exact.{jitter_below}
use Rattle.flows.specs.declared.Flow.{Flow}
use Rattle.flows.specs.declared.Table.{Table}
use Rattle.flows.specs.declared.Refusal.{Refusal}
use Rattle.flows.specs.Refusals.{accepted, cause_in}
use Rattle.flows.specs.Lists.{flow_of, table_net}
use Rattle.records.specs.Bodies.{Bytes}
use Rattle.table.specs.Calls.{asked_for}
use Rattle.table.specs.Made.{Made}
use Rattle.table.specs.Demands.{Present, Unused}
use Rattle.table.proofs.Figures.{made_valid, made-figured}
use Rattle.table.proofs.Calls.{none_present, ask_refused}
use Rattle.plans.specs.Plans.{plan_answer}
use Rattle.plans.proofs.Trips.{refused_table, answer_made}
use Rattle.host.specs.Host.{bound_of, plan_bound}

-- ---- a flow's bound
accepted_ok : (o : Result (Unit {0}) Refusal) → cause_in o ≡ accepted → o ≡ Ok tt
accepted_ok (Ok tt) h = refl
accepted_ok (Err r) h = absurd (cc)

made-bound : (t : Table) → Made t → (f : Flow) → Present t f → 0 < bound_of (asked_for t f.number)
unfolding bound_of
made-bound t m f p =
    let g = made-figured t m in
    let s = g.stored f p in
    let v = made_valid t m in
    let r = v.flows (flow_of f) (Memᴰ.map flow_of p) in
    let e : bound_of (asked_for t f.number) ≡ s.shown.bound = ap bound_of s.asking in
    omega (arith, jitter_below (table_net t) (flow_of f) v.links r g.arrivals s.shown.bound s.right.bound)

module _ (b : List ℕ) (n : ℕ) where
  pub lacks_zero : Unused (plan_answer b).table n → plan_bound b n ≡ 0
  unfolding plan_bound bound_of
  lacks_zero a = ap bound_of (ask_refused (plan_answer b).table n a)

  pub refused_zero : ((plan_answer b).outcome ≡ Ok tt → ⊥) → plan_bound b n ≡ 0
  refused_zero never = lacks_zero (λ f p q. none_present 0 0 f (subst (λ (t : Table). Present t f) (refused_table b (λ h. never (accepted_ok (plan_answer b).outcome h))) p))

  pub zero_lacks : Bytes b → plan_bound b n ≡ 0 → Unused (plan_answer b).table n
  unfolding plan_bound
  zero_lacks u e f p q =
      let w = made-bound (plan_answer b).table (answer_made b u) f p in
      let z : bound_of (asked_for (plan_answer b).table f.number) ≡ 0 = ap (λ (k : ℕ). bound_of (asked_for (plan_answer b).table k)) q ∙ e in
      omega arith
