-- The cost at a node by its place, and the slowest cost on a path, one node more at a time. Assumes nothing.
use mathlib.Core.Path.{◌≡◌, refl, ap, ap₂, sym, ◌∙◌}
use mathlib.Core.Bool.{Bool, true, false}
use mathlib.Core.List.{List, [], ◌∷◌, ◌++◌}
use Prim.Native.Nat.{ℕ, zero, suc, ◌≤◌, ◌<◌, max}
use native.Mathlib.Omega.{arith}
use lib.Dec.{eqb}
use lib.ListN.{length, get_or, take, get_or-eq_default}
use borrow.Author.Tests.{eq-eqb, ne_eqb, eqb-true, eqb-false}
use Rattle.least.specs.Count.{pick}
use Rattle.least.specs.Fold.{max_of, max_to, any_of}
use Rattle.least.specs.Lists.{list_to}
use Rattle.least.proofs.Fold.{false_true}
use Rattle.least.proofs.Ranges.{max_to_ext}
use Rattle.rules.specs.Net.{Hop}
use Rattle.rules.specs.Formula.{visits, before, there, cost_at, slowest}
use Rattle.rules.specs.Valid.{Distinct}
use Rattle.nets.specs.Nets.{length_in, hop_in, path_in, no_hop, position_of}
use Rattle.nets.proofs.Reading.{path_length, path_at, path_front}
use Rattle.nets.proofs.Places.{own_place}
use Rattle.crossings.specs.Pairs.{place_on, cost_on}

module _ (h : ℕ) where
  cost-nowhere : (l : List Hop) → visits l h ≡ false → cost_at l h ≡ 0
  unfolding there visits any_of max_of
  cost-nowhere [] v = refl
  cost-nowhere (k ∷ l) v = go (eqb k.node h) v (cost-nowhere l)
    where
      go : (b : Bool) → pick b true (visits l h) ≡ false → (visits l h ≡ false → cost_at l h ≡ 0) → max (pick b k.cost 0) (cost_at l h) ≡ 0
      go true e ih = false_true (sym e)
      go false e ih = omega (arith, ih e)

  cost_position : (l : List Hop) → Distinct l → (get_or l (position_of h l) no_hop).cost ≡ cost_at l h
  unfolding before there max_of
  cost_position [] d = refl
  cost_position (k ∷ l) d = go (eqb k.node h) refl (cost_position l d.1)
    where
      go : (b : Bool) → eqb k.node h ≡ b → (get_or l (position_of h l) no_hop).cost ≡ cost_at l h →
          (get_or (k ∷ l) (length (pick b [] (k ∷ before h l))) no_hop).cost ≡ max (pick b k.cost 0) (cost_at l h)
      go true e ih = omega (arith, cost-nowhere l (ap (visits l) (sym (eqb-true k.node h e)) ∙ d.0))
      go false e ih = omega arith

pub cost-on : (net : List ℕ) (a b k : ℕ) → Distinct (path_in net b) → cost_on net a b k ≡ cost_at (path_in net b) (hop_in net a k).node
unfolding cost_on place_on
cost-on net a b k d = cost_position (hop_in net a k).node (path_in net b) d

-- the slowest cost: no node, one more
slowest-none : (l : List Hop) → slowest [] l ≡ 0
unfolding slowest max_of visits any_of
slowest-none [] = refl
slowest-none (x ∷ l) = omega (arith, slowest-none l)

module _ (k : Hop) where
  visits_snoc : (P : List Hop) (x : ℕ) → visits (P ++ (k ∷ [])) x ≡ pick (visits P x) true (eqb x k.node)
  unfolding visits any_of
  visits_snoc [] x = go (eqb x k.node) refl
    where
      go : (b : Bool) → eqb x k.node ≡ b → pick (eqb k.node x) true false ≡ b
      go true e = rw (eq-eqb k.node x (sym (eqb-true x k.node e)))
      go false e = rw (ne_eqb k.node x (λ q. eqb-false x k.node e (sym q)))
  visits_snoc (q ∷ P) x = go (visits_snoc P x) (eqb q.node x)
    where
      go : visits (P ++ (k ∷ [])) x ≡ pick (visits P x) true (eqb x k.node) → (b : Bool) →
          pick b true (visits (P ++ (k ∷ [])) x) ≡ pick (pick b true (visits P x)) true (eqb x k.node)
      go ih true = refl
      go ih false = ih

  slowest_snoc : (P l : List Hop) → slowest (P ++ (k ∷ [])) l ≡ max (slowest P l) (cost_at l k.node)
  unfolding slowest there max_of
  slowest_snoc P [] = refl
  slowest_snoc P (x ∷ l) = rw (visits_snoc P x.node) (go (visits P x.node) (eqb x.node k.node) _ _ _ (slowest_snoc P l))
    where
      go : (b c : Bool) (u v w : ℕ) → u ≡ max v w → max (pick (pick b true c) x.cost 0) u ≡ max (max (pick b x.cost 0) v) (max (pick c x.cost 0) w)
      go true true u v w h = omega arith
      go true false u v w h = omega arith
      go false true u v w h = omega arith
      go false false u v w h = omega arith

-- on the first p nodes of a's path
pub slowest_to : (net : List ℕ) (a b : ℕ) → Distinct (path_in net b) → (p : ℕ) → p ≤ length_in net a →
    slowest (take p (path_in net a)) (path_in net b) ≡ max_to p (cost_on net a b)
unfolding list_to max_to
slowest_to net a b d p h = ap (λ P. slowest P (path_in net b)) (path_front net a p h) ∙ go p
  where
    go : (m : ℕ) → slowest (list_to (hop_in net a) m) (path_in net b) ≡ max_to m (cost_on net a b)
    go zero = slowest-none (path_in net b)
    go (suc m) = slowest_snoc (hop_in net a m) (list_to (hop_in net a) m) (path_in net b) ∙ ap₂ max (go m) (sym (cost-on net a b m d))

-- of a flow's own path
module _ (net : List ℕ) (a : ℕ) (d : Distinct (path_in net a)) where
  pub own_cost : (k : ℕ) → k < length_in net a → cost_at (path_in net a) (hop_in net a k).node ≡ (hop_in net a k).cost
  own_cost k h =
      sym (cost_position (hop_in net a k).node (path_in net a) d) ∙ ap (λ n. (get_or (path_in net a) n no_hop).cost) (own_place net a d k h)
      ∙ ap (λ (q : Hop). q.cost) (path_at net a k h)

  pub own_slowest : (p : ℕ) → p ≤ length_in net a → slowest (take p (path_in net a)) (path_in net a) ≡ max_to p (λ k. (hop_in net a k).cost)
  own_slowest p h = slowest_to net a a d p h ∙ max_to_ext p _ _ (λ k i. cost-on net a a k d ∙ own_cost k (omega arith))

-- the cost as it is read: p is the place, n how many nodes b has
module _ (net : List ℕ) (a b k p n : ℕ) (e : p ≡ place_on net a b k) (len : n ≡ length_in net b) where
  pub cost_past : n ≤ p → 0 ≡ cost_on net a b k
  unfolding cost_on
  cost_past h =
      ap (λ (q : Hop). q.cost) (sym (get_or-eq_default (path_in net b) no_hop {n = place_on net a b k} (omega (arith, path_length net b))))

  pub cost_there : p < n → (r : ℕ) → r ≡ (hop_in net b p).cost → r ≡ cost_on net a b k
  unfolding cost_on
  cost_there h r q =
      q ∙ ap (λ (z : Hop). z.cost) (sym (path_at net b p (omega arith))) ∙ ap (λ j. (get_or (path_in net b) j no_hop).cost) e
