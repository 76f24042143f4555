-- Where one path meets another, by the places that are noted, and the loops over one path that test whether the other passes. Assumes nothing.
use mathlib.Core.Path.{◌≡◌, refl, sym, ap, ◌∙◌, subst}
use mathlib.Core.Bool.{Bool, true, false, not}
use mathlib.Core.Logic.{inl, inr}
use mathlib.Core.List.{List, [], ◌∷◌, Memᴰ}
use Prim.Native.Nat.{ℕ, zero, suc, ◌+◌, ◌≤◌, ◌<◌}
use native.Mathlib.Omega.{arith}
use lib.Dec.{eqb, ltb}
use lib.ListN.{length, get_or, drop}
use borrow.Author.Tests.{eq-eqb, eqb-true, lt-ltb, le-ltb, not-true, not-false}
use Rattle.least.specs.Count.{pick}
use Rattle.least.specs.Fold.{any_of}
use Rattle.least.specs.Lists.{First}
use Rattle.least.proofs.Count.{le_or-lt, never_true}
use Rattle.least.proofs.Fold.{any_at, any_found}
use Rattle.least.proofs.Lists.{drop_next, drop_past}
use Rattle.rules.specs.Net.{Hop}
use Rattle.rules.specs.Formula.{visits, before, crosses}
use Rattle.rules.specs.Judge.{meets_again, returns}
use Rattle.rules.proofs.Path.{visits_here, visits-there, visits_member}
use Rattle.nets.specs.Nets.{length_in, hop_in, path_in, no_hop, position_of}
use Rattle.nets.proofs.Reading.{path_length, path_at}
use Rattle.nets.proofs.Places.{member_at, visits_at, position_below, position_node}
use Rattle.crossings.specs.Pairs.{place_on}

-- a node is visited where its position is on the path, and no node before that is it
pub visits_below : (l : List Hop) (h : ℕ) → position_of h l < length l → visits l h ≡ true
unfolding before
visits_below [] h q = absurd (omega arith)
visits_below (k ∷ ks) h q = go (eqb k.node h) refl q (visits_below ks h)
  where
    go : (b : Bool) → eqb k.node h ≡ b → length (pick b [] (k ∷ before h ks)) < length (k ∷ ks) → (position_of h ks < length ks → visits ks h ≡ true) →
        visits (k ∷ ks) h ≡ true
    go true e q ih = subst (λ n. visits (k ∷ ks) n ≡ true) (eqb-true k.node h e) (visits_here k ks)
    go false e q ih = visits-there k ks h (ih (omega arith))

pub visits_place : (l : List Hop) (h : ℕ) → visits l h ≡ ltb (position_of h l) (length l)
visits_place l h = elim (le_or-lt (length l) (position_of h l)) [
  | inl q ↦ never_true (visits l h) (λ v. omega (arith, position_below l h v)) ∙ sym (le-ltb _ _ q)
  | inr q ↦ visits_below l h q ∙ sym (lt-ltb _ _ q)
]

pub position_first : (l : List Hop) (h j : ℕ) → j < length l → (get_or l j no_hop).node ≡ h → position_of h l ≤ j
unfolding before
position_first [] h j i e = absurd (omega arith)
position_first (k ∷ ks) h zero i e = rw (eq-eqb k.node h e) (omega arith)
position_first (k ∷ ks) h (suc j) i e = go (eqb k.node h) (position_first ks h j (omega arith) e)
  where
    go : (b : Bool) → position_of h ks ≤ j → length (pick b [] (k ∷ before h ks)) ≤ suc j
    go true ih = omega arith
    go false ih = omega arith

-- place k is the position on b of the node at place k of a; f the first that is below b's end
module _ (a b : List Hop) (place : ℕ → ℕ) (is : (k : ℕ) → k < length a → place k ≡ position_of (get_or a k no_hop).node b) (f : ℕ)
    (first : First place (length a) (length b) f) where
  pub cross_first : crosses a b ≡ ltb f (length a)
  unfolding crosses
  cross_first = elim (le_or-lt (length a) f) [
    | inl q ↦ never_true (crosses a b) (λ e. apart q (any_found (λ k. visits a k.node) b e)) ∙ sym (le-ltb _ _ q)
    | inr q ↦ met q ∙ sym (lt-ltb _ _ q)
  ]
    where
      apart : length a ≤ f → ((x : Hop) × Memᴰ x b × (visits a x.node ≡ true)) → ⊥
      apart q r =
          let k = position_of r.0.node a in
          let h = position_below a r.0.node r.2 in
          omega (
            arith,
            first.before k (omega arith),
            is k h,
            ap (λ n. position_of n b) (position_node a r.0.node r.2),
            position_below b r.0.node (visits_member r.1),
          )

      met : f < length a → crosses a b ≡ true
      met q =
          let n = (get_or a f no_hop).node in
          let i : position_of n b < length b = omega (arith, first.found q, is f q) in
          any_at (λ k. visits a k.node) (member_at b (position_of n b) no_hop i)
          (ap (visits a) (position_node b n (visits_below b n i)) ∙ visits_at a f q)

module _ (net : List ℕ) (a b : ℕ) where
  pub place_is : (k : ℕ) → k < length (path_in net a) → place_on net a b k ≡ position_of (get_or (path_in net a) k no_hop).node (path_in net b)
  unfolding place_on
  place_is k h = ap (λ (q : Hop). position_of q.node (path_in net b)) (sym (path_at net a k (omega (arith, path_length net a))))

  pub place_passes : (k p n : ℕ) → p ≡ place_on net a b k → n ≡ length_in net b → ltb p n ≡ visits (path_in net b) (hop_in net a k).node
  unfolding place_on
  place_passes k p n e q =
      ap (λ x. ltb x n) e ∙ ap (ltb (place_on net a b k)) (q ∙ sym (path_length net b)) ∙ sym (visits_place (path_in net b) (hop_in net a k).node)

  pub first_meets : (f m : ℕ) → m ≡ length_in net a → First (place_on net a b) (length_in net a) (length_in net b) f → ltb f m ≡ crosses (path_in net a) (path_in net b)
  first_meets f m e q =
      ap (ltb f) (e ∙ sym (path_length net a))
      ∙ sym (cross_first (path_in net a) (path_in net b) (place_on net a b) place_is f (rw (path_length net a, path_length net b) q))

-- the path of b against P: t is whether P has the node at place k
module _ (net : List ℕ) (b n k : ℕ) (len : n ≡ length_in net b) (P : List Hop) where
  abbrev rest : ℕ → List Hop
  rest j = drop j (path_in net b)

  past : n ≤ k → rest k ≡ []
  past h = drop_past (path_in net b) k (omega (arith, path_length net b))

  module _ (t : Bool) (h : k < n) (v : t ≡ visits P (hop_in net b k).node) where
    next : rest k ≡ hop_in net b k ∷ rest (k + 1)
    next = drop_next (path_in net b) k no_hop (omega (arith, path_length net b)) ∙ ap (λ r. r ∷ rest (k + 1)) (path_at net b k (omega arith))

    pub meets_more : (e : Bool) → crosses P (rest k) ≡ e → t ≡ false → crosses P (rest (k + 1)) ≡ e
    unfolding crosses any_of
    meets_more e inv i = rw (next, sym v ∙ i) at inv

    pub meets_here : (e : Bool) → crosses P (rest k) ≡ e → t ≡ true → true ≡ e
    unfolding crosses any_of
    meets_here e inv i = rw (next, sym v ∙ i) at inv

    pub again_more : (e : Bool) → meets_again P (rest k) ≡ e → not t ≡ false → meets_again P (rest (k + 1)) ≡ e
    unfolding meets_again
    again_more e inv i = rw (next, sym v ∙ not-false t i) at inv

    pub again_left : (e r : Bool) → meets_again P (rest k) ≡ e → not t ≡ true → r ≡ crosses P (rest (k + 1)) → r ≡ e
    unfolding meets_again crosses
    again_left e r inv i s = s ∙ (rw (next, sym v ∙ not-true t i) at inv)

    pub back_more : (e : Bool) → returns P (rest k) ≡ e → t ≡ false → returns P (rest (k + 1)) ≡ e
    unfolding returns
    back_more e inv i = rw (next, sym v ∙ i) at inv

    pub back_met : (e r : Bool) → returns P (rest k) ≡ e → t ≡ true → r ≡ meets_again P (rest (k + 1)) → r ≡ e
    unfolding returns
    back_met e r inv i s = s ∙ (rw (next, sym v ∙ i) at inv)

  pub meets_end : (e : Bool) → crosses P (rest k) ≡ e → n ≤ k → false ≡ e
  unfolding crosses any_of
  meets_end e inv h = rw (past h) at inv

  pub again_end : (e : Bool) → meets_again P (rest k) ≡ e → n ≤ k → false ≡ e
  unfolding meets_again
  again_end e inv h = rw (past h) at inv

  pub back_end : (e : Bool) → returns P (rest k) ≡ e → n ≤ k → false ≡ e
  unfolding returns
  back_end e inv h = rw (past h) at inv
