-- What the host's functions on plans promise, from the equations. Assumes nothing.
use Prim.Native.Nat.{ℕ, ◌<◌}
use mathlib.Core.Path.{◌≡◌, sym, ap, ◌∙◌, subst}
use mathlib.Core.List.{List}
use mathlib.Core.Logic.{inr, ⊎_elim}
use lib.ListN.{get_or}
use mir.Val.{Fits}
use mir.Syntax.{w8}
use Rattle.flows.specs.declared.Answer.{Answer}
use Rattle.flows.specs.declared.Flow.{Flow}
use Rattle.flows.specs.declared.Table.{Table}
use Rattle.std.specs.Prelude.{Ok}
use Rattle.flows.specs.Lists.{flow_of, table_net}
use Rattle.rules.specs.Meaning.{IsBound}
use Rattle.records.specs.Bodies.{Bytes}
use Rattle.records.proofs.RoundTrip.{bytes_fit}
use Rattle.table.specs.Calls.{asked_for}
use Rattle.table.specs.Demands.{Present, Unused, Figured}
use Rattle.table.proofs.Figures.{made-figured}
use Rattle.plans.specs.Plans.{plan_answer}
use Rattle.plans.proofs.Trips.{answer_made}
use Rattle.host.specs.Host.{bound_of, outcome_code, plan_bound}
use Rattle.host.specs.Demands.{number_in, flow_in, Judges, Bounds}
use Rattle.host.proofs.Numbers.{tells}
use Rattle.host.proofs.Zero.{lacks_zero, refused_zero, zero_lacks}

pub judge_promise : (b : List ℕ) (a : Answer) (r : ℕ) → a ≡ plan_answer b → r ≡ outcome_code a.outcome → (number_in a.outcome < 256) × (flow_in a.outcome < 256) → Judges b r
judge_promise b a r e h s = rw (h, ← e) (tells a.outcome s.1)

-- ---- the bound
module _ (b : List ℕ) (n : ℕ) (u : Bytes b) where
  abbrev t : Table
  t = (plan_answer b).table

  abbrev figured : Figured t
  figured = made-figured t (answer_made b u)

  shown : (f : Flow) → Present t f → f.number ≡ n → IsBound (table_net t) (flow_of f) figured.arrivals (plan_bound b n)
  unfolding plan_bound bound_of
  shown f p q =
      let s = figured.stored f p in
      let e : s.shown.bound ≡ plan_bound b n = sym (ap bound_of s.asking) ∙ ap (λ (k : ℕ). bound_of (asked_for t k)) q in
      subst (λ (k : ℕ). IsBound (table_net t) (flow_of f) figured.arrivals k) e s.right.bound

  bounds : Bounds b n (plan_bound b n)
  bounds = record {
    zero = (
      λ z. inr (zero_lacks b n u z),
      λ w. ⊎_elim (λ (never : (plan_answer b).outcome ≡ Ok tt → ⊥). refused_zero b n never) (λ (a : Unused t n). lacks_zero b n a) w,
    );
    arrivals = figured.arrivals;
    least = figured.least;
    bound = shown;
  }

pub bound_promise : (b : List ℕ) (n r : ℕ) → ((k : ℕ) → Fits w8 (get_or b k 0)) → r ≡ plan_bound b n → Bounds b n r
bound_promise b n r f e = subst (Bounds b n) (sym e) (bounds b n (bytes_fit b f))
