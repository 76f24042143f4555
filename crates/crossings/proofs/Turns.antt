-- The first node that two paths share, on the one and on the other, and how far one runs along the other. Assumes nothing.
use mathlib.Core.Path.{◌≡◌, refl, sym, ap, ◌∙◌}
use mathlib.Core.Bool.{Bool, true, false}
use mathlib.Core.Logic.{inl, inr}
use mathlib.Core.List.{List, [], ◌∷◌}
use Prim.Native.Nat.{ℕ, zero, suc, ◌+◌, ◌≤◌, ◌<◌}
use native.Mathlib.Omega.{arith}
use lib.Dec.{eqb, ltb}
use lib.ListN.{length, get_or, take, length-take, get_or-eq_default}
use lib.Seq.{get_or-take}
use borrow.Author.Tests.{eq-eqb, ne_eqb, lt-ltb, le-ltb, ltb-true}
use Rattle.least.specs.Count.{pick}
use Rattle.least.specs.Lists.{First}
use Rattle.least.proofs.Count.{le_or-lt}
use Rattle.rules.specs.Net.{Hop}
use Rattle.rules.specs.Formula.{visits, first_on}
use Rattle.nets.specs.Nets.{length_in, hop_in, path_in, no_hop, position_of}
use Rattle.nets.proofs.Reading.{path_length, path_at}
use Rattle.nets.proofs.Places.{visits_at, position_below, position_node}
use Rattle.crossings.specs.Pairs.{place_on}
use Rattle.crossings.proofs.Meeting.{visits_below, position_first, place_is}

-- the place of the first node of a that b visits: all of them if there is none
unfoldable meet_at : List Hop → List Hop → ℕ
meet_at [] b = 0
meet_at (k ∷ a) b = pick (visits b k.node) 0 (suc (meet_at a b))

first_node : (a b : List Hop) → first_on a b ≡ (get_or a (meet_at a b) no_hop).node
unfolding meet_at first_on
first_node [] b = refl
first_node (k ∷ a) b = go (visits b k.node) (first_node a b)
  where
    go : (t : Bool) → first_on a b ≡ (get_or a (meet_at a b) no_hop).node → pick t k.node (first_on a b) ≡ (get_or (k ∷ a) (pick t 0 (suc (meet_at a b))) no_hop).node
    go true ih = refl
    go false ih = ih

meet_visited : (a b : List Hop) → meet_at a b < length a → visits b (get_or a (meet_at a b) no_hop).node ≡ true
unfolding meet_at
meet_visited [] b h = absurd (omega arith)
meet_visited (k ∷ a) b h = go (visits b k.node) refl h (meet_visited a b)
  where
    go : (t : Bool) → visits b k.node ≡ t → pick t 0 (suc (meet_at a b)) < length (k ∷ a) → (meet_at a b < length a → visits b (get_or a (meet_at a b) no_hop).node ≡ true) →
        visits b (get_or (k ∷ a) (pick t 0 (suc (meet_at a b))) no_hop).node ≡ true
    go true e h ih = e
    go false e h ih = ih (omega arith)

meet-least : (a b : List Hop) (j : ℕ) → j < length a → visits b (get_or a j no_hop).node ≡ true → meet_at a b ≤ j
unfolding meet_at
meet-least [] b j h v = absurd (omega arith)
meet-least (k ∷ a) b zero h v = rw v (omega arith)
meet-least (k ∷ a) b (suc j) h v = go (visits b k.node) (meet-least a b j (omega arith) v)
  where
    go : (t : Bool) → meet_at a b ≤ j → pick t 0 (suc (meet_at a b)) ≤ suc j
    go true ih = omega arith
    go false ih = omega arith

meet-none : (a b : List Hop) → length a ≤ meet_at a b → first_on a b ≡ 0
meet-none a b h = first_node a b ∙ ap (λ (q : Hop). q.node) (get_or-eq_default a no_hop {n = meet_at a b} h)

-- place k is the position on b of the node at place k of l; P the prefix at place p
module _ (l b : List Hop) (place : ℕ → ℕ) (is : (k : ℕ) → k < length l → place k ≡ position_of (get_or l k no_hop).node b) (p : ℕ) (h : p < length l) where
  abbrev P : List Hop
  P = take (p + 1) l

  abbrev node : ℕ → ℕ
  node k = (get_or l k no_hop).node

  long : length P ≡ p + 1
  long = omega (arith, length-take (p + 1) l)

  at : (k : ℕ) → k ≤ p → (get_or P k no_hop).node ≡ node k
  at k i = ap (λ (q : Hop). q.node) (get_or-take (p + 1) l k no_hop (omega arith))

  on-P : (k : ℕ) → k ≤ p → visits P (node k) ≡ true
  on-P k i = ap (visits P) (sym (at k i)) ∙ visits_at P k (omega (arith, long))

  on_b : (k : ℕ) → k ≤ p → place k < length b → visits b (node k) ≡ true
  on_b k i q = visits_below b (node k) (omega (arith, is k (omega arith)))

  -- on b, the first node that P has: none before it is at a place of P's nodes, and it is at one
  below : (k : ℕ) → k ≤ p → place k < length b → meet_at b P ≤ place k
  below k i q =
      meet-least b P (place k) q
      (ap (λ j. visits P (get_or b j no_hop).node) (is k (omega arith)) ∙ ap (visits P) (position_node b (node k) (on_b k i q)) ∙ on-P k i)

  reached : meet_at b P < length b → (k : ℕ) × (k ≤ p) × (place k ≤ meet_at b P)
  reached q =
      let n = (get_or b (meet_at b P) no_hop).node in
      let v = meet_visited b P q in
      let k = position_of n P in
      let i : k ≤ p = omega (arith, position_below P n v, long) in
      (k, i, omega (arith, is k (omega arith), ap (λ x. position_of x b) (sym (at k i) ∙ position_node P n v), position_first b n (meet_at b P) q refl))

  -- it is the one whose place is the least
  first_of_b : (g : ℕ) → g ≤ p → place g < length b → ((k : ℕ) → k ≤ p → place g ≤ place k) → first_on b P ≡ node g
  first_of_b g i q least =
      let r = reached (omega (arith, below g i q)) in
      let e : meet_at b P ≡ position_of (node g) b = omega (arith, below g i q, least r.0 r.1, is g (omega arith)) in
      first_node b P ∙ ap (λ j. (get_or b j no_hop).node) e ∙ position_node b (node g) (on_b g i q)

  -- on P, the first node that b has
  shared : (k : ℕ) → k ≤ p → visits b (get_or P k no_hop).node ≡ true → place k < length b
  shared k i v = omega (arith, is k (omega arith), ap (λ x. position_of x b) (at k i), position_below b (get_or P k no_hop).node v)

  -- f is the first place that is on b
  module _ (f : ℕ) (first : First place (length l) (length b) f) where
    found : f ≤ p → place f < length b
    found q = first.found (omega arith)

    first-of-P : f ≤ p → first_on P b ≡ node f
    first-of-P q = first_node P b ∙ ap (λ j. (get_or P j no_hop).node) here ∙ at f q
      where
        here : meet_at P b ≡ f
        here = elim (le_or-lt f (meet_at P b)) [
          | inl r ↦ omega (arith, meet-least P b f (omega (arith, long)) (ap (visits b) (at f q) ∙ on_b f q (found q)))
          | inr r ↦ (
              let i : meet_at P b ≤ p = omega arith in
              absurd (omega (arith, first.before (meet_at P b) r, shared (meet_at P b) i (meet_visited P b (omega (arith, long))))))
        ]

    none_of_b : p < f → length b ≤ meet_at b P
    none_of_b q = elim (le_or-lt (length b) (meet_at b P)) [
      | inl r ↦ r
      | inr r ↦ (let g = reached r in absurd (omega (arith, first.before g.0 (omega arith))))
    ]

    none-of-P : p < f → length P ≤ meet_at P b
    none-of-P q = elim (le_or-lt (length P) (meet_at P b)) [
      | inl r ↦ r
      | inr r ↦ (
          let i : meet_at P b ≤ p = omega (arith, long) in
          absurd (omega (arith, first.before (meet_at P b) (omega arith), shared (meet_at P b) i (meet_visited P b r))))
    ]

    -- t is the first that is before that one's
    module _ (t : ℕ) (turn : First place (length l) (pick (ltb f (length l)) (place f) 0) t) where
      turn-later : p < f → p < t
      turn-later q = elim (le_or-lt t p) [ inl r ↦ absurd (go r (ltb f (length l)) refl (turn.found (omega arith))) | inr r ↦ r ]
        where
          go : t ≤ p → (s : Bool) → ltb f (length l) ≡ s → place t < pick s (place f) 0 → ⊥
          go r true e z = omega (arith, first.found (ltb-true f (length l) e), first.before t (omega arith))
          go r false e z = omega arith

      -- where P shares nothing with b
      apart : p < f → eqb (first_on b P) (first_on P b) ≡ ltb p t
      apart q = eq-eqb _ _ (meet-none b P (none_of_b q) ∙ sym (meet-none P b (none-of-P q))) ∙ sym (lt-ltb p t (turn-later q))

      -- where it shares the node at place f first
      module _ (q : f ≤ p) where
        bound : pick (ltb f (length l)) (place f) 0 ≡ place f
        bound = rw (lt-ltb f (length l) (omega arith))

        same : p < t → first_on b P ≡ node f
        same z = first_of_b f q (found q) (λ k i. omega (arith, bound, turn.before k (omega arith)))

        other : t ≤ p → first_on b P ≡ node f → ⊥
        other z e =
            let u : place t < place f = omega (arith, bound, turn.found (omega arith)) in
            let v : meet_at b P ≤ place t = below t z (omega (arith, found q)) in
            omega (arith, is f (omega arith), position_first b (node f) (meet_at b P) (omega (arith, found q)) (sym (first_node b P) ∙ e))

        together : eqb (first_on b P) (first_on P b) ≡ ltb p t
        together = elim (le_or-lt t p) [
          | inl z ↦ ne_eqb _ _ (λ e. other z (e ∙ first-of-P q)) ∙ sym (le-ltb p t z)
          | inr z ↦ eq-eqb _ _ (same z ∙ sym (first-of-P q)) ∙ sym (lt-ltb p t z)
        ]

      turn_along : eqb (first_on b P) (first_on P b) ≡ ltb p t
      turn_along = elim (le_or-lt f p) [ inl q ↦ together q | inr q ↦ apart q ]

-- the same of two flows of a set, at place p of a's path
module _ (net : List ℕ) (a b p : ℕ) (h : p < length_in net a) where
  on : p < length (path_in net a)
  on = omega (arith, path_length net a)

  node_at : (k : ℕ) → k ≤ p → (get_or (path_in net a) k no_hop).node ≡ (hop_in net a k).node
  node_at k i = ap (λ (q : Hop). q.node) (path_at net a k (omega arith))

  pub least_shared : (g : ℕ) → g ≤ p → place_on net a b g < length_in net b → ((k : ℕ) → k ≤ p → place_on net a b g ≤ place_on net a b k) →
      first_on (path_in net b) (take (p + 1) (path_in net a)) ≡ (hop_in net a g).node
  least_shared g i q least =
      first_of_b (path_in net a) (path_in net b) (place_on net a b) (place_is net a b) p on g i (omega (arith, path_length net b)) least ∙ node_at g i

  module _ (f : ℕ) (first : First (place_on net a b) (length_in net a) (length_in net b) f) where
    first' : First (place_on net a b) (length (path_in net a)) (length (path_in net b)) f
    first' = rw (path_length net a, path_length net b) first

    pub first_shared : f ≤ p → first_on (take (p + 1) (path_in net a)) (path_in net b) ≡ (hop_in net a f).node
    first_shared q = first-of-P (path_in net a) (path_in net b) (place_on net a b) (place_is net a b) p on f first' q ∙ node_at f q

    -- b runs along a on the prefix exactly if p stands before the turn
    pub along_turn : (t : ℕ) → First (place_on net a b) (length_in net a) (pick (ltb f (length_in net a)) (place_on net a b f) 0) t →
        eqb (first_on (path_in net b) (take (p + 1) (path_in net a))) (first_on (take (p + 1) (path_in net a)) (path_in net b)) ≡ ltb p t
    along_turn t turn =
        turn_along (path_in net a) (path_in net b) (place_on net a b) (place_is net a b) p on f first' t (rw (path_length net a) turn)
