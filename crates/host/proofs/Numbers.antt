-- Numbers that fit, flow numbers past 255, a law for each way out, and the parts of an outcome's number. Assumes nothing.
use Prim.Native.Nat.{ℕ, ◌+◌, ◌*◌, ◌/◌, ◌%◌, ◌≤◌, ◌<◌, ◌^◌}
use mathlib.Core.Path.{◌≡◌, refl, sym, ap, ◌∙◌, subst}
use mathlib.Core.List.{List, [], ◌∷◌}
use native.Mathlib.Omega.{arith}
use lib.ListN.{length, get_or}
use mir.Val.{Fits}
use mir.Syntax.{w8}
use borrow.Author.Tests.{ne_eqb, le-ltb}
use Rattle.std.specs.Prelude.{Option, None, Result, Ok, Err}
use Rattle.flows.specs.declared.Flow.{Flow}
use Rattle.flows.specs.declared.Table.{Table}
use Rattle.flows.specs.declared.Answer.{Answer}
use Rattle.flows.specs.declared.Cause.{Cause}
use Rattle.flows.specs.declared.Cause.TheVariants.{Delays, NumberZero, OutOfRange, NodeTwice, Present, Full, Crossing, NoBusyLength, Unsettled, PastDeadline, Absent, Malformed, ShortBuffer}
use Rattle.flows.specs.declared.Refusal.{Refusal}
use Rattle.flows.specs.Refusals.{number_of, flow_named, place_in}
use Rattle.flows.specs.Lists.{most_flows, held}
use Rattle.flows.specs.WellFormed.{Each, each_more, Typed}
use Rattle.row.specs.Rows.{first_of, place_of, found_in}
use Rattle.records.specs.Bodies.{Bytes}
use Rattle.records.proofs.RoundTrip.{bytes_fit}
use Rattle.plan.specs.Reading.{read_plan}
use Rattle.plan.specs.Writing.{plan_length}
use Rattle.plan.proofs.Unread.{place_inside}
use Rattle.table.specs.Calls.{asked_by, asked_for}
use Rattle.table.specs.Made.{Made}
use Rattle.table.proofs.Kept.{made-right}
use Rattle.plans.specs.Plans.{refused_plan, plan_answer}
use Rattle.plans.proofs.Trips.{judged_place, in_turn, answer_made}
use Rattle.host.specs.Host.{outcome_code, bound_of, bound_in, plan_code, plan_bound}
use Rattle.host.specs.Demands.{number_in, flow_in, Tells}

-- ---- numbers that fit
outcome_fits : (o : Result (Unit {0}) Refusal) → number_in o < 256 → flow_in o < 256 → place_in o < 2 ^ 48 → outcome_code o < 2 ^ 64
outcome_fits (Ok x) n m p = omega arith
outcome_fits (Err r) n m p = omega arith

-- ---- places
-- the place of a refusal is within the longest plan, whatever is read
answer_place : (b : List ℕ) → Bytes b → place_in (plan_answer b).outcome ≤ plan_length most_flows
unfolding refused_plan
answer_place b u =
    in_turn b
    (λ h e. subst (λ (a : Answer). place_in a.outcome ≤ plan_length most_flows) (sym e) (omega (arith, judged_place (read_plan b).set)))
    (λ r h e. subst (λ (a : Answer). place_in a.outcome ≤ plan_length most_flows) (sym e) (let p = ap place_in h in omega (arith, (place_inside b u).place.1)))

module _ (b : List ℕ) (a : Answer) (e : a ≡ plan_answer b) where
  pub plan_place : ((k : ℕ) → Fits w8 (get_or b k 0)) → place_in a.outcome < 2 ^ 48
  plan_place f = rw e (omega (arith, answer_place b (bytes_fit b f)))

  -- as one number it fits
  pub plan_fits : ((k : ℕ) → Fits w8 (get_or b k 0)) → number_in a.outcome < 256 → flow_in a.outcome < 256 → outcome_code a.outcome < 2 ^ 64
  plan_fits f n m = outcome_fits a.outcome n m (plan_place f)

  pub refusal_fits : ((k : ℕ) → Fits w8 (get_or b k 0)) → (x : Refusal) → a.outcome ≡ Err x → x.place < 2 ^ 48
  refusal_fits f x h = let p = plan_place f in let q = ap place_in h in omega arith

  pub coded : (r : ℕ) → r ≡ outcome_code a.outcome → r ≡ plan_code b
  unfolding plan_code
  coded r h = h ∙ ap (λ (a : Answer). outcome_code a.outcome) e

-- ---- numbers past 255
far_place : (fs : List Flow) (n : ℕ) → Each Typed fs → 255 < n → length fs ≤ place_of n fs
unfolding first_of
far_place [] n e h = omega arith
far_place (f ∷ fs) n (each_more t e) h =
    let ih = far_place fs n e h in
    let z : f.number ≡ n → ⊥ = λ q. omega (arith, t.number) in
    rw (ne_eqb f.number n z) (omega (arith, ih))

far_found : (fs : List Flow) (n : ℕ) → Each Typed fs → 255 < n → found_in fs n ≡ None
unfolding found_in
far_found fs n e h = rw (le-ltb _ _ (far_place fs n e h))

far-bound : (t : Table) (n : ℕ) → Made t → 255 < n → bound_of (asked_for t n) ≡ 0
unfolding bound_of asked_for asked_by
far-bound t n m h = ap (λ (o : Option ℕ). bound_of (asked_by t o)) (far_found (held t.row) n (made-right t m).set.typed h)

pub no_bound : (b : List ℕ) (n : ℕ) → ((k : ℕ) → Fits w8 (get_or b k 0)) → 255 < n → 0 ≡ plan_bound b n
unfolding plan_bound
no_bound b n f h = sym (far-bound (plan_answer b).table n (answer_made b (bytes_fit b f)) h)

pub bounded : (b : List ℕ) (a : Answer) (n m r : ℕ) → a ≡ plan_answer b → m ≡ n → r ≡ bound_in a m → r ≡ plan_bound b n
unfolding plan_bound
bounded b a n m r e g h = h ∙ ap (bound_in a) g ∙ ap (λ (q : Answer). bound_in q n) e

-- ---- number, flow and place told apart
module _ (n f p : ℕ) (h : n < 256) (g : f < 256) where
  low : (n + 256 * f + 65536 * p) % 256 ≡ n
  low = omega arith

  middle : (n + 256 * f + 65536 * p) / 256 % 256 ≡ f
  middle = omega arith

  high : (n + 256 * f + 65536 * p) / 65536 ≡ p
  high = omega arith

-- a refusal's number is not 0, and fits a byte
pub number_range : (c : Cause) → (0 < number_of c) × (number_of c < 256)
number_range Delays = (omega arith, omega arith)
number_range NumberZero = (omega arith, omega arith)
number_range OutOfRange = (omega arith, omega arith)
number_range NodeTwice = (omega arith, omega arith)
number_range Present = (omega arith, omega arith)
number_range Full = (omega arith, omega arith)
number_range (Crossing n) = (omega arith, omega arith)
number_range (NoBusyLength n) = (omega arith, omega arith)
number_range Unsettled = (omega arith, omega arith)
number_range (PastDeadline n) = (omega arith, omega arith)
number_range Absent = (omega arith, omega arith)
number_range Malformed = (omega arith, omega arith)
number_range ShortBuffer = (omega arith, omega arith)

pub tells : (o : Result (Unit {0}) Refusal) → flow_in o < 256 → Tells o (outcome_code o)
tells (Ok tt) m = record { accepted = (λ z. refl, λ z. refl); number = refl; flow = refl; place = refl }
tells (Err r) m =
    let n = number_range r.cause in
    record {
      accepted = (λ z. absurd (omega arith), λ z. let x : Result (Unit {0}) Refusal = Err r in absurd (cc));
      number = low (number_of r.cause) (flow_named r.cause) r.place n.1 m;
      flow = middle (number_of r.cause) (flow_named r.cause) r.place n.1 m;
      place = high (number_of r.cause) (flow_named r.cause) r.place n.1 m;
    }
