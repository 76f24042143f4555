-- A path and its prefixes: what stands before what. Assumes nothing.
use mathlib.Core.Path.{◌≡◌, refl, ◌∙◌, sym}
use mathlib.Core.Bool.{Bool, true, false}
use mathlib.Core.Logic.{◌⊎◌, inl, inr}
use mathlib.Core.List.{List, [], ◌∷◌, Memᴰ}
use Prim.Native.Nat.{ℕ, ◌≤◌, ◌<◌}
use native.Mathlib.Omega.{arith}
use lib.Dec.{eqb}
use lib.ListN.{length}
use borrow.Author.Tests.{eqb-true, eq-eqb}
use Rattle.least.specs.Count.{pick}
use Rattle.least.specs.Fold.{only, any_of}
use Rattle.least.specs.Starts.{Order}
use Rattle.least.proofs.Fold.{false_true, any_at, any_found, max_at}
use Rattle.rules.specs.Net.{Hop, Flow}
use Rattle.rules.specs.Formula.{visits, prefix, before, last_node, last_on, slowest}
use Rattle.rules.specs.Meaning.{On}

-- a path visits its nodes
pub visits_here : (k : Hop) (l : List Hop) → visits (k ∷ l) k.node ≡ true
unfolding visits any_of
visits_here k l = rw (eq-eqb k.node k.node refl)

pub visits-there : (k : Hop) (l : List Hop) (n : ℕ) → visits l n ≡ true → visits (k ∷ l) n ≡ true
unfolding visits any_of
visits-there k l n e = go (eqb k.node n)
  where
    go : (b : Bool) → pick b true (any_of (λ k. eqb k.node n) l) ≡ true
    go true = refl
    go false = e

pub visits_member : {k : Hop} {l : List Hop} → Memᴰ k l → visits l k.node ≡ true
unfolding visits
visits_member {k} {l} m = any_at (λ q. eqb q.node k.node) m (eq-eqb k.node k.node refl)

pub visits-hop : (l : List Hop) (h : ℕ) → visits l h ≡ true → (k : Hop) × Memᴰ k l × (k.node ≡ h)
unfolding visits
visits-hop l h e = let r = any_found (λ k. eqb k.node h) l e in (r.0, r.1, eqb-true r.0.node h r.2)

-- what it visits is here or later
pub visits-cases : (k : Hop) (l : List Hop) (n : ℕ) → visits (k ∷ l) n ≡ true → (k.node ≡ n) ⊎ (visits l n ≡ true)
unfolding visits any_of
visits-cases k l n e = go (eqb k.node n) refl e
  where
    go : (b : Bool) → eqb k.node n ≡ b → pick b true (any_of (λ k. eqb k.node n) l) ≡ true → (k.node ≡ n) ⊎ (any_of (λ k. eqb k.node n) l ≡ true)
    go true q e = inl (eqb-true k.node n q)
    go false q e = inr e

never : {A : Type 0} (n : ℕ) → visits [] n ≡ true → A
unfolding visits any_of
never n e = false_true e

pub last_visited : (l : List Hop) → 0 < length l → visits l (last_node l) ≡ true
unfolding last_node
last_visited [] p = absurd (omega arith)
last_visited (k ∷ []) p = visits_here k []
last_visited (k ∷ (m ∷ ms)) p = visits-there k (m ∷ ms) (last_node (m ∷ ms)) (last_visited (m ∷ ms) (omega arith))

-- a prefix's nodes are the path's: h, or a node before h
pub prefix-visits : (h n : ℕ) (l : List Hop) → visits (prefix h l) n ≡ true → visits l n ≡ true
unfolding prefix
prefix-visits h n [] e = e
prefix-visits h n (k ∷ ks) e = go (prefix-visits h n ks) (eqb k.node h) e
  where
    go : (visits (prefix h ks) n ≡ true → visits ks n ≡ true) → (b : Bool) → visits (k ∷ pick b [] (prefix h ks)) n ≡ true → visits (k ∷ ks) n ≡ true
    go ih true e = elim (visits-cases k [] n e) [ inl q ↦ rw (← q) (visits_here k ks) | inr q ↦ never n q ]
    go ih false e = elim (visits-cases k (prefix h ks) n e) [ inl q ↦ rw (← q) (visits_here k ks) | inr q ↦ visits-there k ks n (ih q) ]

prefix_cases : (h n : ℕ) (l : List Hop) → visits (prefix h l) n ≡ true → (n ≡ h) ⊎ (visits (before h l) n ≡ true)
unfolding prefix before
prefix_cases h n [] e = never n e
prefix_cases h n (k ∷ ks) e = go (prefix_cases h n ks) (eqb k.node h) refl e
  where
    go : (visits (prefix h ks) n ≡ true → (n ≡ h) ⊎ (visits (before h ks) n ≡ true)) → (b : Bool) → eqb k.node h ≡ b →
        visits (k ∷ pick b [] (prefix h ks)) n ≡ true → (n ≡ h) ⊎ (visits (pick b [] (k ∷ before h ks)) n ≡ true)
    go ih true p e = elim (visits-cases k [] n e) [ inl q ↦ inl (sym q ∙ eqb-true k.node h p) | inr q ↦ never n q ]
    go ih false p e = elim (visits-cases k (prefix h ks) n e) [
      | inl q ↦ inr (rw (← q) (visits_here k (before h ks)))
      | inr q ↦ elim (ih q) [ inl r ↦ inl r | inr r ↦ inr (visits-there k (before h ks) n r) ]
    ]

pub before-visits : (h n : ℕ) (l : List Hop) → visits (before h l) n ≡ true → visits l n ≡ true
unfolding before
before-visits h n [] e = e
before-visits h n (k ∷ ks) e = go (before-visits h n ks) (eqb k.node h) e
  where
    go : (visits (before h ks) n ≡ true → visits ks n ≡ true) → (b : Bool) → visits (pick b [] (k ∷ before h ks)) n ≡ true → visits (k ∷ ks) n ≡ true
    go ih true e = never n e
    go ih false e = elim (visits-cases k (before h ks) n e) [ inl q ↦ rw (← q) (visits_here k ks) | inr q ↦ visits-there k ks n (ih q) ]

-- how many nodes stand before
pub before_less : (h n : ℕ) (l : List Hop) → visits (before h l) n ≡ true → length (before n l) < length (before h l)
unfolding before
before_less h n [] e = never n e
before_less h n (k ∷ ks) e = go (before_less h n ks) (eqb k.node h) (eqb k.node n) refl e
  where
    go : (visits (before h ks) n ≡ true → length (before n ks) < length (before h ks)) →
        (a b : Bool) → eqb k.node n ≡ b → visits (pick a [] (k ∷ before h ks)) n ≡ true →
        length (pick b [] (k ∷ before n ks)) < length (pick a [] (k ∷ before h ks))
    go ih true b q e = never n e
    go ih false true q e = omega arith
    go ih false false q e = elim (visits-cases k (before h ks) n e) [
      | inl r ↦ false_true (sym q ∙ eq-eqb k.node n r)
      | inr r ↦ omega (arith, ih r)
    ]

before_short : (h : ℕ) (l : List Hop) → visits l h ≡ true → length (before h l) < length l
unfolding before
before_short h [] e = never h e
before_short h (k ∷ ks) e = go (before_short h ks) (eqb k.node h) refl
  where
    go : (visits ks h ≡ true → length (before h ks) < length ks) → (b : Bool) → eqb k.node h ≡ b → length (pick b [] (k ∷ before h ks)) < length (k ∷ ks)
    go ih true q = omega arith
    go ih false q = elim (visits-cases k ks h e) [ inl r ↦ false_true (sym q ∙ eq-eqb k.node h r) | inr r ↦ omega (arith, ih r) ]

-- the order of a flow's nodes
abbrev pub order : Flow → Order ℕ
order i = record {
  On = On i;
  Before = λ l h. visits (before h i.path) l ≡ true;
  rank = λ h. length (before h i.path);
  on = λ l h b. before-visits h l i.path b;
  less = λ l h b. before_less h l i.path b;
}

pub rank_below : (i : Flow) (h : ℕ) → On i h → length (before h i.path) < length i.path
rank_below i h o = before_short h i.path o

-- the last node shared is h, or stands before it
last_on-cases : (h : ℕ) (a b : List Hop) → (last_on h a b ≡ h) ⊎ (visits a (last_on h a b) ≡ true)
unfolding last_on
last_on-cases h [] b = inl refl
last_on-cases h (k ∷ a) b = go (visits b k.node) (last_on-cases k.node a b) (last_on-cases h a b)
  where
    go : (t : Bool) → (last_on k.node a b ≡ k.node) ⊎ (visits a (last_on k.node a b) ≡ true) →
        (last_on h a b ≡ h) ⊎ (visits a (last_on h a b) ≡ true) →
        (last_on (pick t k.node h) a b ≡ h) ⊎ (visits (k ∷ a) (last_on (pick t k.node h) a b) ≡ true)
    go true (inl e) r = inr (rw e (visits_here k a))
    go true (inr v) r = inr (visits-there k a (last_on k.node a b) v)
    go false q (inl e) = inl e
    go false q (inr v) = inr (visits-there k a (last_on h a b) v)

pub last-cases : (h : ℕ) (l b : List Hop) → (last_on h (prefix h l) b ≡ h) ⊎ (visits (before h l) (last_on h (prefix h l) b) ≡ true)
last-cases h l b = elim (last_on-cases h (prefix h l) b) [ inl e ↦ inl e | inr v ↦ prefix_cases h (last_on h (prefix h l) b) l v ]

pub slowest_at : (P : List Hop) {k : Hop} {l : List Hop} → Memᴰ k l → visits P k.node ≡ true → k.cost ≤ slowest P l
unfolding slowest
slowest_at P {k} {l} m v = rw (← own) (max_at (only (λ q. visits P q.node) (λ q. q.cost)) m)
  where
    own : only (λ q. visits P q.node) (λ q. q.cost) k ≡ k.cost
    own = rw v
