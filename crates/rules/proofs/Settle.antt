-- The least settled arrival bounds. Assumes nothing.
use mathlib.Core.Path.{◌≡◌, refl, sym, ap, subst, ◌∙◌}
use mathlib.Core.Bool.{Bool, true, false}
use mathlib.Core.Logic.{◌⊎◌, inl, inr}
use mathlib.Core.List.Memᴰ
use mathlib.Core.List.{List, [], ◌∷◌, ◌++◌, Memᴰ}
use Prim.Native.Nat.{ℕ, ◌+◌, ◌≤◌, ◌<◌, max}
use native.Mathlib.Omega.{arith}
use native.Mathlib.Nat.{le_refl, le_trans, le_of_eq}
use lib.Dec.{eqb}
use borrow.Author.Tests.{eqb-true}
use Rattle.least.specs.Count.{pick}
use Rattle.least.specs.Fold.{max_of, only}
use Rattle.least.specs.Vector.{◌⊑◌, Risingᵛ, Leastᵛ, Underᵛ}
use Rattle.least.proofs.Vector.{least_of, least_exists}
use Rattle.rules.specs.Net.{Hop, Flow, Net}
use Rattle.rules.specs.Formula.{horizon, Key, Arrivals, arriving, arrivals}
use Rattle.rules.specs.Meaning.{On, Here, Settled, LeastSettled}
use Rattle.rules.specs.Judge.{response}
use Rattle.rules.specs.Ready.{Ready, next}
use Rattle.rules.proofs.Grow.{part_refl}
use Rattle.rules.proofs.Start.{response_is, response_found, response_rises}
use Rattle.rules.proofs.Below.{arrivals-le, next_below, part_below}

-- the places that count: elsewhere an arrival bound is 0
hop_keys : ℕ → List Hop → List Key
hop_keys n [] = []
hop_keys n (k ∷ ks) = (n, k.node) ∷ hop_keys n ks

keys : List Flow → List Key
keys [] = []
keys (i ∷ l) = hop_keys i.number i.path ++ keys l

hop-places : (n : ℕ) (l : List Hop) (h : ℕ) → Memᴰ (n, h) (hop_keys n l) ⊎ ((m : ℕ) (R : ℕ → ℕ) (a : ℕ) → arriving m R a l h ≡ 0)
unfolding hop_keys arriving
hop-places n [] h = inr (λ m R a. refl)
hop-places n (k ∷ l) h = go (hop-places n l h) (eqb k.node h) refl
  where
    go : Memᴰ (n, h) (hop_keys n l) ⊎ ((m : ℕ) (R : ℕ → ℕ) (a : ℕ) → arriving m R a l h ≡ 0) → (b : Bool) → eqb k.node h ≡ b →
        Memᴰ (n, h) ((n, k.node) ∷ hop_keys n l) ⊎ ((m : ℕ) (R : ℕ → ℕ) (a : ℕ) → pick b a (arriving m R (R k.node + m) l h) ≡ 0)
    go r true e = inl (Memᴰ.head (ap (λ q. (n, q)) (sym (eqb-true k.node h e))))
    go (inl p) false e = inl (Memᴰ.tail p)
    go (inr z) false e = inr (λ m R a. z m R (R k.node + m))

flow-places : (m : ℕ) (l : List Flow) (k : Key) →
    Memᴰ k (keys l) ⊎ ((R : Flow → ℕ → ℕ) → max_of (only (λ i. eqb i.number k.0) (λ i. arriving m (R i) 0 i.path k.1)) l ≡ 0)
unfolding keys max_of
flow-places m [] k = inr (λ R. refl)
flow-places m (i ∷ l) k = go (flow-places m l k) (eqb i.number k.0) refl (hop-places i.number i.path k.1)
  where
    rest : (Flow → ℕ → ℕ) → ℕ
    rest R = max_of (only (λ i. eqb i.number k.0) (λ i. arriving m (R i) 0 i.path k.1)) l

    go : Memᴰ k (keys l) ⊎ ((R : Flow → ℕ → ℕ) → rest R ≡ 0) → (b : Bool) → eqb i.number k.0 ≡ b →
        Memᴰ (i.number, k.1) (hop_keys i.number i.path) ⊎ ((m : ℕ) (R : ℕ → ℕ) (a : ℕ) → arriving m R a i.path k.1 ≡ 0) →
        Memᴰ k (hop_keys i.number i.path ++ keys l) ⊎ ((R : Flow → ℕ → ℕ) → max (pick b (arriving m (R i) 0 i.path k.1) 0) (rest R) ≡ 0)
    go (inl p) b e q = inl (Memᴰ.append_right (hop_keys i.number i.path) p)
    go (inr z) true e (inl p) = inl (Memᴰ.append_left (keys l) (subst (λ n. Memᴰ (n, k.1) (hop_keys i.number i.path)) (eqb-true i.number k.0 e) p))
    go (inr z) true e (inr y) = inr (λ R. omega (arith, z R, y m (R i) 0))
    go (inr z) false e q = inr (λ R. omega (arith, z R))

places : (N : Net) (k : Key) → Memᴰ k (keys N.flows) ⊎ ((S : Arrivals) → next N S k ≡ 0)
unfolding arrivals
places N k = elim (flow-places N.lmax N.flows k) [ inl p ↦ inl p | inr z ↦ inr (λ S. z (λ i. response N i S)) ]

module _ (N : Net) (ready : (i : Flow) → Here N i → Ready N i) where
  -- the operator on arrival bounds rises
  pub next_rising : Risingᵛ (next N)
  next_rising = next_below N N (part_below N N (part_refl N) (λ i m. (ready i m).sound)) ready ready

  -- the equations of Settled, and the operator's
  same-arrivals : (R R' : Flow → ℕ → ℕ) → ((i : Flow) → Here N i → (h : ℕ) → On i h → R i h ≡ R' i h) → (k : Key) → arrivals N R k ≡ arrivals N R' k
  same-arrivals R R' e k = omega (
    arith,
    arrivals-le N N (le_refl _) (λ i. i) R R' (λ i m. m) (λ i m. refl) (λ i m. refl) (λ i m h o. le_of_eq (e i m h o)) k,
    arrivals-le N N (le_refl _) (λ i. i) R' R (λ i m. m) (λ i m. refl) (λ i m. refl) (λ i m h o. le_of_eq (sym (e i m h o))) k,
  )

  pub settled_fixed : (S : Arrivals) → Settled N S → (k : Key) → next N S k ≡ S k
  settled_fixed S s k =
      same-arrivals (λ i. response N i S) s.R (λ i m h o. response_found N i (ready i m) S h (s.R i h) o (s.response i m h o)) k ∙ sym (s.meets k)

  abbrev pub WithinHorizon : Arrivals → Type 0
  WithinHorizon S = (i : Flow) → Here N i → (h : ℕ) → On i h → response N i S h ≤ horizon

  pub fixed_settled : (S : Arrivals) → ((k : Key) → next N S k ≡ S k) → WithinHorizon S → Settled N S
  fixed_settled S e w = record {
    R = λ i. response N i S;
    response = λ i m h o. response_is N i (ready i m) S h o;
    meets = λ k. sym (e k);
    within = w;
  }

  pub settled_within : (S : Arrivals) → Settled N S → WithinHorizon S
  settled_within S s i m h o = omega (arith, response_found N i (ready i m) S h (s.R i h) o (s.response i m h o), s.within i m h o)

  -- response bounds rise with the arrival bounds
  pub responses_rise : (S U : Arrivals) → S ⊑ U → (i : Flow) → Here N i → (h : ℕ) → On i h → response N i S h ≤ response N i U h
  responses_rise S U hS i m h o =
      response_rises N i (ready i m).sound S U hS h (response N i S h) (response N i U h) o (response_is N i (ready i m) S h o) (response_is N i (ready i m) U h o)

  -- rising iteration, in any order, stays below every settled set
  pub under_settled : (S U : Arrivals) → Underᵛ (next N) S → Settled N U → S ⊑ U
  under_settled S U u s = u.low U (λ k. le_of_eq (settled_fixed U s k))

  -- a response bound past the horizon on the way shows that there is none
  pub past_none : (S : Arrivals) → Underᵛ (next N) S → (i : Flow) → Here N i → (h : ℕ) → On i h → horizon < response N i S h → (U : Arrivals) → Settled N U → ⊥
  past_none S u i m h o over U s =
      omega (arith, responses_rise S U (under_settled S U u s) i m h o, settled_within U s i m h o)

  -- coming to rest within the horizon gives the least settled one
  pub rest_least : (S : Arrivals) → Leastᵛ (next N) S → WithinHorizon S → LeastSettled N S
  rest_least S l w = record { settled = fixed_settled S l.fixed w; lowest = λ U s. l.lowest U (λ k. le_of_eq (settled_fixed U s k)) }

  -- There is one below each vector that is not raised and keeps the response bounds within the horizon, as each settled one does.
  pub least_below : (U : Arrivals) → next N U ⊑ U → WithinHorizon U → (S : Arrivals) × Leastᵛ (next N) S × LeastSettled N S
  least_below U d w =
      let r = least_exists (next N) next_rising (keys N.flows) (places N) U d in
      (r.0, r.1, rest_least r.0 r.1 (λ i m h o. le_trans (responses_rise r.0 U (r.1.lowest U d) i m h o) (w i m h o)))

  -- the least settled one is the operator's least fixed vector
  pub least_rests : (S : Arrivals) → LeastSettled N S → Leastᵛ (next N) S
  least_rests S s =
      let fixed : next N S ⊑ S = λ k. le_of_eq (settled_fixed S s.settled k) in
      let r = least_below S fixed (settled_within S s.settled) in
      least_of next_rising fixed (λ U d k. le_trans (s.lowest r.0 r.2.settled k) (r.1.lowest U d k))

-- unique entry by entry
pub least_settled_unique : (N : Net) (S U : Arrivals) → LeastSettled N S → LeastSettled N U → (k : Key) → S k ≡ U k
least_settled_unique N S U s u k = omega (arith, s.lowest U u.settled k, u.lowest S s.settled k)
