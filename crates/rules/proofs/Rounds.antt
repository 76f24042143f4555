-- Rounds from zero end: past the horizon, and then there are no settled arrival bounds, or at the least settled ones. Assumes nothing.
use mathlib.Core.Path.{◌≡◌, refl, ◌∙◌, sym, ap, subst}
use mathlib.Core.Bool.{Bool, true, false}
use mathlib.Core.Logic.{◌⊎◌, inl, inr}
use mathlib.Core.List.{List, [], ◌∷◌, map, Memᴰ}
use Prim.Native.Nat.{ℕ, ◌+◌, ◌*◌, ◌≤◌, ◌<◌}
use native.Mathlib.Omega.{arith}
use native.Mathlib.Nat.{le_refl, le_trans, le_of_eq}
use lib.Dec.{leb, ltb, eqb}
use lib.ListN.{length}
use borrow.Author.Tests.{leb-true, leb-false, ltb-true, lt-ltb}
use Rattle.least.specs.Count.{pick}
use Rattle.least.specs.Fold.{sum_of, max_of, any_of}
use Rattle.least.specs.Vector.{◌⊑◌, Underᵛ}
use Rattle.least.proofs.Count.{le_or-lt}
use Rattle.least.proofs.Fold.{false_true, sum_le, sum_ext, sum-map, sum_bound, sum_tight, max-map, max_ext, any_at, any_found, any-map, any_ext}
use Rattle.least.proofs.Vector.{underᵛ_zero, underᵛ_step, underᵛ_ext, underᵛ_done, settle_keeps, settle_rests}
use Rattle.rules.specs.Net.{Hop, Flow, Net}
use Rattle.rules.specs.Formula.{horizon, Key, Arrivals, arriving, arrivals}
use Rattle.rules.specs.Meaning.{On, Here, Settled, LeastSettled}
use Rattle.rules.specs.Judge.{response, Reply, arriving_by, arrivals_by, replies, round, past_horizon, total, still, rounds, settle}
use Rattle.rules.specs.Ready.{Ready, next}
use Rattle.rules.proofs.Path.{visits_member, visits-hop}
use Rattle.rules.proofs.Below.{arrivals-le}
use Rattle.rules.proofs.Settle.{next_rising, responses_rise, past_none, rest_least}

-- the arrival bounds of replies are the next ones
by_responses : (m : ℕ) (R : ℕ → ℕ) (a : ℕ) (l : List Hop) (h : ℕ) → arriving_by m a l (map (λ k. R k.node) l) h ≡ arriving m R a l h
unfolding arriving_by arriving
by_responses m R a [] h = refl
by_responses m R a (k ∷ ks) h = ap (λ r. pick (eqb k.node h) a r) (by_responses m R (R k.node + m) ks h)

by-replies : (N : Net) (S : Arrivals) (k : Key) → arrivals_by N (replies N S) k ≡ next N S k
unfolding arrivals_by replies arrivals
by-replies N S k =
    max-map _ _ N.flows
    ∙ max_ext _ _ N.flows
    (λ i m. ap (λ r. pick (eqb i.number k.0) r 0) (by_responses N.lmax (response N i S) 0 i.path k.1))

by-none : (N : Net) (k : Key) → 0 ≡ arrivals_by N [] k
unfolding arrivals_by max_of
by-none N k = refl

-- what a total, and a test of the horizon, look at
total_is : (N : Net) (S : Arrivals) → total (replies N S) ≡ sum_of (λ i. sum_of (λ k. response N i S k.node) i.path) N.flows
unfolding total replies
total_is N S = sum-map _ _ N.flows ∙ sum_ext _ _ N.flows (λ i m. sum-map _ _ i.path)

past_is : (N : Net) (S : Arrivals) → past_horizon (replies N S) ≡ any_of (λ i. any_of (λ k. ltb horizon (response N i S k.node)) i.path) N.flows
unfolding past_horizon replies
past_is N S = any-map _ _ N.flows ∙ any_ext _ _ N.flows (λ i. any-map _ _ i.path)

past_found : (N : Net) (S : Arrivals) → past_horizon (replies N S) ≡ true →
    (i : Flow) × (k : Hop) × Here N i × Memᴰ k i.path × (horizon < response N i S k.node)
past_found N S e =
    let r = any_found (λ i. any_of (λ k. ltb horizon (response N i S k.node)) i.path) N.flows (sym (past_is N S) ∙ e) in
    let q = any_found (λ k. ltb horizon (response N r.0 S k.node)) r.0.path r.2 in
    (r.0, q.0, r.1, q.1, ltb-true horizon (response N r.0 S q.0.node) q.2)

not-past : (N : Net) (S : Arrivals) → past_horizon (replies N S) ≡ false → (i : Flow) → Here N i → (k : Hop) → Memᴰ k i.path → response N i S k.node ≤ horizon
not-past N S e i m k q = elim (le_or-lt (response N i S k.node) horizon) [
  | inl h ↦ h
  | inr h ↦ false_true (sym (sym (past_is N S) ∙ e) ∙ found h)
]
  where
    found : horizon < response N i S k.node → any_of (λ i. any_of (λ k. ltb horizon (response N i S k.node)) i.path) N.flows ≡ true
    found h = any_at _ m (any_at (λ k. ltb horizon (response N i S k.node)) q (lt-ltb horizon (response N i S k.node) h))

-- within the horizon, no total reaches the number of rounds
total-small : (N : Net) (S : Arrivals) → past_horizon (replies N S) ≡ false → total (replies N S) < rounds N
unfolding rounds
total-small N S e = omega (
  arith,
  total_is N S,
  sum_le (λ i. sum_of (λ k. response N i S k.node) i.path) (λ i. length i.path * horizon) N.flows
      (λ i m. each i.path (λ k q. not-past N S e i m k q)),
)
  where
    each : {f : Hop → ℕ} (l : List Hop) → ((k : Hop) → Memᴰ k l → f k ≤ horizon) → sum_of f l ≤ length l * horizon
    each l h = sum_bound _ l horizon h

-- how the rounds end
module _ (N : Net) (ready : (i : Flow) → Here N i → Ready N i) where
  -- replies to arrival bounds that a rising iteration reached
  pub record Reached (c : List Reply) : Type 0 where
    pub S : Arrivals
    pub under : Underᵛ (next N) S
    pub replied : c ≡ replies N S

  by-reached : (c : List Reply) (r : Reached c) (k : Key) → next N r.S k ≡ arrivals_by N c k
  by-reached c r k = sym (by-replies N r.S k) ∙ ap (λ q. arrivals_by N q k) (sym r.replied)

  under-replies : (c : List Reply) → Reached c → Underᵛ (next N) (arrivals_by N c)
  under-replies c r = underᵛ_ext (next_rising N ready) (by-reached c r) (underᵛ_step (next_rising N ready) r.under)

  reached-round : (c : List Reply) → Reached c → Reached (round N c)
  unfolding round
  reached-round c r = record { S = arrivals_by N c; under = under-replies c r; replied = refl }

  reached-first : Reached (round N [])
  unfolding round
  reached-first = record {
    S = arrivals_by N [];
    under = underᵛ_ext (next_rising N ready) (by-none N) (underᵛ_zero (next N));
    replied = refl;
  }

  reached : Reached (settle N)
  unfolding settle
  reached = settle_keeps still (round N) Reached reached-round (rounds N) (round N []) reached-first

  gains : (c : List Reply) → Reached c → still c (round N c) ≡ false → total c < total (round N c)
  unfolding still
  gains c r e = go (past_horizon c) e
    where
      go : (b : Bool) → pick b true (leb (total (round N c)) (total c)) ≡ false → total c < total (round N c)
      go true e = false_true (sym e)
      go false e = leb-false (total (round N c)) (total c) e

  -- past the horizon, or at rest: the number of rounds decides nothing
  ends : (past_horizon (settle N) ≡ true) ⊎ ((past_horizon (settle N) ≡ false) × (total (round N (settle N)) ≤ total (settle N)))
  unfolding settle still
  ends = go (past_horizon (settle N)) refl (settle_rests still (round N) Reached reached-round total gains (rounds N) (round N []) reached-first)
    where
      go : (b : Bool) → past_horizon (settle N) ≡ b →
          (pick (past_horizon (settle N)) true (leb (total (round N (settle N))) (total (settle N))) ≡ true) ⊎ (total (round N []) + rounds N ≤ total (settle N)) →
          (past_horizon (settle N) ≡ true) ⊎ ((past_horizon (settle N) ≡ false) × (total (round N (settle N)) ≤ total (settle N)))
      go true e r = inl e
      go false e (inl s) = inr (e, leb-true (total (round N (settle N))) (total (settle N)) (rw e at s))
      go false e (inr s) = absurd (omega (arith, ap total reached.replied, total-small N reached.S (ap past_horizon (sym reached.replied) ∙ e)))

  pub settle_past : past_horizon (settle N) ≡ true → (U : Arrivals) → Settled N U → ⊥
  settle_past e =
      let r = reached in
      let f = past_found N r.S (ap past_horizon (sym r.replied) ∙ e) in
      past_none N ready r.S r.under f.0 f.2 f.1.node (visits_member f.3) f.4

  -- at rest each response bound is what it was
  rises : reached.S ⊑ arrivals_by N (settle N)
  rises k = le_trans (reached.under.up k) (le_of_eq (by-reached (settle N) reached k))

  at_rest : past_horizon (settle N) ≡ false → (i : Flow) → Here N i → (h : ℕ) → On i h →
      response N i (arrivals_by N (settle N)) h ≤ response N i reached.S h
  unfolding round
  at_rest e i m h o = elim ends [
    | inl p ↦ false_true (sym e ∙ p)
    | inr p ↦ at-node (visits-hop i.path h o) p.1
  ]
    where
      was : Flow → ℕ
      was i = sum_of (λ k. response N i reached.S k.node) i.path

      now : Flow → ℕ
      now i = sum_of (λ k. response N i (arrivals_by N (settle N)) k.node) i.path

      one : (i : Flow) → Here N i → (k : Hop) → Memᴰ k i.path → response N i reached.S k.node ≤ response N i (arrivals_by N (settle N)) k.node
      one i m k q = responses_rise N ready reached.S (arrivals_by N (settle N)) rises i m k.node (visits_member q)

      at-node : (k : Hop) × Memᴰ k i.path × (k.node ≡ h) → total (round N (settle N)) ≤ total (settle N) →
          response N i (arrivals_by N (settle N)) h ≤ response N i reached.S h
      at-node q t =
          let none : sum_of now N.flows ≤ sum_of was N.flows =
          omega (arith, total_is N reached.S, total_is N (arrivals_by N (settle N)), ap total reached.replied) in
          let flow = sum_tight was now N.flows (λ j n. sum_le _ _ j.path (one j n)) none i m in
          let node = sum_tight _ _ i.path (one i m) flow q.0 q.1 in
          subst (λ n. response N i (arrivals_by N (settle N)) n ≤ response N i reached.S n) q.2 node

  pub settle_least : past_horizon (settle N) ≡ false → LeastSettled N (arrivals_by N (settle N))
  settle_least e = rest_least N ready (arrivals_by N (settle N)) (underᵛ_done (under-replies (settle N) reached) down) within
    where
      down : next N (arrivals_by N (settle N)) ⊑ arrivals_by N (settle N)
      down k =
          le_trans
          (arrivals-le N N (le_refl _) (λ i. i) (λ i. response N i (arrivals_by N (settle N))) (λ i. response N i reached.S) (λ i m. m) (λ i m. refl) (λ i m. refl)
          (at_rest e) k)
          (le_of_eq (by-reached (settle N) reached k))

      within : (i : Flow) → Here N i → (h : ℕ) → On i h → response N i (arrivals_by N (settle N)) h ≤ horizon
      within i m h o =
          let q = visits-hop i.path h o in
          let w = not-past N reached.S (ap past_horizon (sym reached.replied) ∙ e) i m q.0 q.1 in
          le_trans (at_rest e i m h o) (subst (λ n. response N i reached.S n ≤ horizon) q.2 w)
