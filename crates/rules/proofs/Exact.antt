-- Naturals lose nothing: neither the sum of terms 1 to 6 nor the jitter is ever below 0. Assumes nothing.
use mathlib.Core.Path.{◌≡◌, refl, ◌∙◌, sym, ap, subst}
use mathlib.Core.Bool.{Bool, true, false}
use mathlib.Core.Logic.{◌⊎◌, inl, inr}
use mathlib.Core.List.{List, [], ◌∷◌, Memᴰ}
use Prim.Native.Nat.{ℕ, ◌+◌, ◌-◌, ◌*◌, ◌≤◌, ◌<◌}
use native.Mathlib.Omega.{arith}
use native.Mathlib.Nat.{le_refl, mul-le-mul_right, mul-le-mul_left}
use lib.Dec.{eqb}
use lib.ListN.{length}
use borrow.Author.Tests.{eqb-true}
use Rattle.least.specs.Count.{pick}
use Rattle.least.specs.Fold.{sum_of}
use Rattle.least.proofs.Count.{pick-le, count_some}
use Rattle.least.proofs.Fold.{false_true, sum_le, max_le, only_le}
use Rattle.rules.specs.Net.{Hop, Flow, Net}
use Rattle.rules.specs.Formula.{visits, prefix, last_node, least, there, cost_at, Arrivals, slowest, own_weight, slowest_node, others, term3, greatest_cost, term4, term5, term6, sum, jitter_of}
use Rattle.rules.specs.Meaning.{On, IsBound}
use Rattle.rules.specs.Valid.{Distinct, InRange}
use Rattle.rules.proofs.Path.{visits_here, visits-there, visits-cases, visits_member, last_visited, slowest_at}

-- a node of the path is on its prefix
prefix_self : (h : ℕ) (l : List Hop) → visits l h ≡ true → visits (prefix h l) h ≡ true
unfolding prefix
prefix_self h [] e = e
prefix_self h (k ∷ ks) e = go (prefix_self h ks) (eqb k.node h) refl (visits-cases k ks h e)
  where
    go : (visits ks h ≡ true → visits (prefix h ks) h ≡ true) → (b : Bool) → eqb k.node h ≡ b → (k.node ≡ h) ⊎ (visits ks h ≡ true) →
        visits (k ∷ pick b [] (prefix h ks)) h ≡ true
    go ih b q (inl e) = subst (λ n. visits (k ∷ pick b [] (prefix h ks)) n ≡ true) e (visits_here k (pick b [] (prefix h ks)))
    go ih true q (inr v) = subst (λ n. visits (k ∷ []) n ≡ true) (eqb-true k.node h q) (visits_here k [])
    go ih false q (inr v) = visits-there k (prefix h ks) h (ih v)

-- the cost that is taken off is covered by the flow's own slowest
pub cost-slowest : (h : ℕ) (l : List Hop) → visits l h ≡ true → cost_at l h ≤ slowest (prefix h l) l
unfolding there slowest
cost-slowest h l v =
    max_le _ _ l
    (λ k m. only_le (λ k. eqb k.node h) (λ k. visits (prefix h l) k.node) (λ k. k.cost) (λ k. k.cost) k
    (λ e. subst (λ n. visits (prefix h l) n ≡ true) (sym (eqb-true k.node h e)) (prefix_self h l v)) (le_refl _))

own_first : (i : Flow) (P : List Hop) (u : ℕ) → 0 < i.period → own_weight P i ≤ term3 i P u
unfolding term3
own_first i P u p = omega (arith, mul-le-mul_right (own_weight P i) (count_some u 0 i.period p (omega arith)))

-- the sum of terms 1 to 6 is never below 0
pub sum_exact : (N : Net) (i : Flow) → 0 < i.period → (S : Arrivals) (u h : ℕ) → On i h → (x : ℕ → ℕ) (w : ℕ) →
    let P = prefix h i.path in
    sum N i S u h x w + cost_at i.path h ≡ others N i S P h u x w + term3 i P u + term4 N i P + term5 N i P + term6 N P
unfolding sum own_weight
sum_exact N i p S u h o x w = omega (arith, cost-slowest h i.path o, own_first i (prefix h i.path) u p)

-- the last node's prefix is the path
prefix_last : (l : List Hop) → Distinct l → prefix (last_node l) l ≡ l
unfolding prefix last_node
prefix_last [] d = refl
prefix_last (k ∷ []) d = go (eqb k.node k.node)
  where
    go : (b : Bool) → k ∷ pick b [] [] ≡ k ∷ []
    go true = refl
    go false = refl
prefix_last (k ∷ (m ∷ ms)) d = go (eqb k.node (last_node (m ∷ ms))) refl (prefix_last (m ∷ ms) d.1)
  where
    go : (b : Bool) → eqb k.node (last_node (m ∷ ms)) ≡ b → prefix (last_node (m ∷ ms)) (m ∷ ms) ≡ m ∷ ms →
        k ∷ pick b [] (prefix (last_node (m ∷ ms)) (m ∷ ms)) ≡ k ∷ (m ∷ ms)
    go true q e =
        false_true (sym d.0 ∙ ap (visits (m ∷ ms)) (eqb-true k.node (last_node (m ∷ ms)) q) ∙ last_visited (m ∷ ms) (omega arith))
    go false q e = ap (λ l. k ∷ l) e

greatest_own : (N : Net) (i : Flow) (P : List Hop) (k : Hop) → k.cost ≤ greatest_cost N i P k
unfolding greatest_cost
greatest_own N i P k = omega arith

-- all costs but at one node s, and what covers the cost at s, cover all costs
but : ℕ → List Hop → ℕ
but s l = sum_of (λ k. pick (eqb k.node s) 0 k.cost) l

none_out : (s : ℕ) (l : List Hop) → visits l s ≡ false → sum_of least l ≡ but s l
unfolding but sum_of
none_out s [] v = refl
none_out s (k ∷ l) v = go (eqb k.node s) refl (none_out s l later)
  where
    later : visits l s ≡ false
    later = not-later (visits l s) refl
      where
        not-later : (b : Bool) → visits l s ≡ b → visits l s ≡ false
        not-later true e = false_true (sym v ∙ visits-there k l s e)
        not-later false e = e

    go : (b : Bool) → eqb k.node s ≡ b → sum_of least l ≡ but s l → k.cost + sum_of least l ≡ pick b 0 k.cost + but s l
    go true q ih = false_true (sym v ∙ subst (λ n. visits (k ∷ l) n ≡ true) (eqb-true k.node s q) (visits_here k l))
    go false q ih = omega arith

one_out : (s c : ℕ) (l : List Hop) → Distinct l → ((k : Hop) → Memᴰ k l → k.cost ≤ c) → sum_of least l ≤ c + but s l
unfolding but sum_of
one_out s c [] d h = omega arith
one_out s c (k ∷ l) d h = go (eqb k.node s) refl (one_out s c l d.1 (λ m q. h m (Memᴰ.tail q)))
  where
    go : (b : Bool) → eqb k.node s ≡ b → sum_of least l ≤ c + but s l → k.cost + sum_of least l ≤ c + (pick b 0 k.cost + but s l)
    go true q ih =
        omega (arith, h k (Memᴰ.head refl), none_out s l (subst (λ n. visits l n ≡ false) (eqb-true k.node s q) d.0))
    go false q ih = omega arith

-- the flow's own packet meets at least its own costs on the way
costs_covered : (N : Net) (i : Flow) → Distinct i.path → sum_of least i.path ≤ own_weight i.path i + term4 N i i.path
unfolding own_weight term4 but
costs_covered N i d = omega (
  arith,
  one_out (slowest_node i.path i) (slowest i.path i.path) i.path d (λ k m. slowest_at i.path m (visits_member m)),
  sum_le (λ k. pick (eqb k.node (slowest_node i.path i)) 0 k.cost)
      (λ k. pick (eqb k.node (slowest_node i.path i)) 0 (greatest_cost N i i.path k)) i.path
      (λ k m. pick-le (eqb k.node (slowest_node i.path i)) (le_refl 0) (greatest_own N i i.path k)),
)

-- the jitter is never below 0
pub jitter_exact : (N : Net) (i : Flow) → N.lmin ≤ N.lmax → InRange i → (S : Arrivals) (b : ℕ) → IsBound N i S b →
    jitter_of N i b + (sum_of least i.path + (length i.path - 1) * N.lmin) ≡ b
unfolding jitter_of term6
jitter_exact N i links r S b p =
    let h = last_node i.path in
    let o = last_visited i.path r.nodes in
    let whole = prefix_last i.path r.distinct in
    omega (
      arith,
      p.greatest.above 0,
      (p.start 0 h o).fixed,
      sum_exact N i r.period S 0 h o (p.W 0) (p.W 0 h),
      own_first i (prefix h i.path) 0 r.period,
      ap (λ P. own_weight P i) whole,
      ap (term4 N i) whole,
      ap (term6 N) whole,
      costs_covered N i r.distinct,
      mul-le-mul_left (length i.path - 1) links,
    )

costs_some : (i : Flow) → InRange i → 0 < sum_of least i.path
unfolding sum_of
costs_some i r = go i.path r.nodes r.costs
  where
    go : (l : List Hop) → 0 < length l → ((k : Hop) → Memᴰ k l → 0 < k.cost) → 0 < sum_of least l
    go [] h c = absurd (omega arith)
    go (k ∷ l) h c = omega (arith, c k (Memᴰ.head refl))

-- A flow has a cost, so the jitter is below the bound, and the bound is not 0
pub jitter_below : (N : Net) (i : Flow) → N.lmin ≤ N.lmax → InRange i → (S : Arrivals) (b : ℕ) → IsBound N i S b → jitter_of N i b < b
jitter_below N i links r S b p = omega (arith, costs_some i r, jitter_exact N i links r S b p)
