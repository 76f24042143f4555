-- The crossing test is assumption 1. RULES, crossing. Assumes nothing.
use mathlib.Core.Path.{◌≡◌, refl, ◌∙◌, sym, ap}
use mathlib.Core.Bool.{Bool, true, false}
use mathlib.Core.List.{List, [], ◌∷◌, Memᴰ, Sublistᴰ}
use lib.Dec.{leb}
use borrow.Author.Tests.{leb-true, le-leb}
use Rattle.least.specs.Count.{pick}
use Rattle.least.specs.Fold.{any_of}
use Rattle.least.proofs.Fold.{false_true, any_at, any_found, mem_sublist}
use Rattle.rules.specs.Net.{Hop, Flow, Net}
use Rattle.rules.specs.Formula.{visits, both}
use Rattle.rules.specs.Meaning.{Keeps, Permitted}
use Rattle.rules.specs.Judge.{meets_again, returns, misplaced}

pub both_left : (a b : Bool) → both a b ≡ true → a ≡ true
both_left true b e = refl
both_left false b e = e

pub both_right : (a b : Bool) → both a b ≡ true → b ≡ true
both_right true b e = e
both_right false b e = false_true e

nothing_of : {A : Type 0} (l : List A) → Sublistᴰ [] l
nothing_of [] = Sublistᴰ.slnil
nothing_of (x ∷ l) = Sublistᴰ.cons (nothing_of l)

single : {A : Type 0} {x : A} {l : List A} → Memᴰ x l → Sublistᴰ (x ∷ []) l
single (Memᴰ.head {xs = l} e) = Sublistᴰ.cons-cons e (nothing_of l)
single (Memᴰ.tail m) = Sublistᴰ.cons (single m)

rest : {A : Type 0} {x : A} {l m : List A} → Sublistᴰ (x ∷ l) m → Sublistᴰ l m
rest (Sublistᴰ.cons s) = Sublistᴰ.cons (rest s)
rest (Sublistᴰ.cons-cons p s) = Sublistᴰ.cons s

module _ (P : List Hop) where
  abbrev off : Hop → Type 0
  off k = visits P k.node ≡ false

  abbrev met : Hop → Type 0
  met k = visits P k.node ≡ true

  -- found: a node off P, and one on P behind it
  meets-found : (l : List Hop) → meets_again P l ≡ true → (m : Hop) × (n : Hop) × Sublistᴰ (m ∷ n ∷ []) l × off m × met n
  unfolding meets_again
  meets-found [] e = false_true e
  meets-found (k ∷ l) e = go (meets-found l) (visits P k.node) refl e
    where
      go : (meets_again P l ≡ true → (m : Hop) × (n : Hop) × Sublistᴰ (m ∷ n ∷ []) l × off m × met n) → (b : Bool) → visits P k.node ≡ b →
          pick b (meets_again P l) (any_of (λ m. visits P m.node) l) ≡ true → (m : Hop) × (n : Hop) × Sublistᴰ (m ∷ n ∷ []) (k ∷ l) × off m × met n
      go ih true q e = (let r = ih e in (r.0, r.1, Sublistᴰ.cons r.2, r.3, r.4))
      go ih false q e = (let r = any_found (λ m. visits P m.node) l e in (k, r.0, Sublistᴰ.cons-cons refl (single r.1), q, r.2))

  returns-found : (l : List Hop) → returns P l ≡ true → (k : Hop) × (m : Hop) × (n : Hop) × Sublistᴰ (k ∷ m ∷ n ∷ []) l × met k × off m × met n
  unfolding returns
  returns-found [] e = false_true e
  returns-found (k ∷ l) e = go (returns-found l) (visits P k.node) refl e
    where
      go : (returns P l ≡ true → (k : Hop) × (m : Hop) × (n : Hop) × Sublistᴰ (k ∷ m ∷ n ∷ []) l × met k × off m × met n) → (b : Bool) → visits P k.node ≡ b →
          pick b (meets_again P l) (returns P l) ≡ true → (a : Hop) × (m : Hop) × (n : Hop) × Sublistᴰ (a ∷ m ∷ n ∷ []) (k ∷ l) × met a × off m × met n
      go ih true q e = (let r = meets-found l e in (k, r.0, r.1, Sublistᴰ.cons-cons refl r.2, q, r.3, r.4))
      go ih false q e = (let r = ih e in (r.0, r.1, r.2, Sublistᴰ.cons r.3, r.4, r.5, r.6))

  -- not found: what lies before a node on P is on P
  meets-none : (l : List Hop) → meets_again P l ≡ false → (m n : Hop) → Sublistᴰ (m ∷ n ∷ []) l → met n → met m
  unfolding meets_again
  meets-none [] e m n s o = elim s [ ]
  meets-none (k ∷ l) e m n s o = go (meets-none l) (visits P k.node) refl e s
    where
      behind : any_of (λ m. visits P m.node) l ≡ false → Memᴰ n l → met m
      behind e q = false_true (sym e ∙ any_at (λ m. visits P m.node) q o)

      go : (meets_again P l ≡ false → (m n : Hop) → Sublistᴰ (m ∷ n ∷ []) l → met n → met m) → (b : Bool) → visits P k.node ≡ b →
          pick b (meets_again P l) (any_of (λ m. visits P m.node) l) ≡ false → Sublistᴰ (m ∷ n ∷ []) (k ∷ l) → met m
      go ih true q e (Sublistᴰ.cons s) = ih e m n s o
      go ih true q e (Sublistᴰ.cons-cons p s) = ap (λ h. visits P h.node) p ∙ q
      go ih false q e (Sublistᴰ.cons s) = behind e (mem_sublist s (Memᴰ.tail (Memᴰ.head refl)))
      go ih false q e (Sublistᴰ.cons-cons p s) = behind e (mem_sublist s (Memᴰ.head refl))

  returns-none : (l : List Hop) → returns P l ≡ false → (k m n : Hop) → Sublistᴰ (k ∷ m ∷ n ∷ []) l → met k → met n → met m
  unfolding returns
  returns-none [] e k m n s o o' = elim s [ ]
  returns-none (h ∷ l) e k m n s o o' = go (returns-none l) (visits P h.node) refl e s
    where
      go : (returns P l ≡ false → (k m n : Hop) → Sublistᴰ (k ∷ m ∷ n ∷ []) l → met k → met n → met m) → (b : Bool) → visits P h.node ≡ b →
          pick b (meets_again P l) (returns P l) ≡ false → Sublistᴰ (k ∷ m ∷ n ∷ []) (h ∷ l) → met m
      go ih true q e (Sublistᴰ.cons s) = meets-none l e m n (rest s) o'
      go ih true q e (Sublistᴰ.cons-cons p s) = meets-none l e m n s o'
      go ih false q e (Sublistᴰ.cons s) = ih e k m n s o o'
      go ih false q e (Sublistᴰ.cons-cons p s) = false_true (sym q ∙ sym (ap (λ x. visits P x.node) p) ∙ o)

-- the test over a set
pub placed_permitted : (N : Net) (i : Flow) → misplaced N i ≡ false → Permitted N i
unfolding misplaced
placed_permitted N i e j m p = go (returns i.path j.path) refl
  where
    go : (b : Bool) → returns i.path j.path ≡ b → Keeps i j
    go true q =
        false_true (sym e ∙ any_at (λ j. both (leb i.priority j.priority) (returns i.path j.path)) m (rw (le-leb i.priority j.priority p, q)))
    go false q = returns-none i.path j.path q

pub misplaced_broken : (N : Net) (i : Flow) → misplaced N i ≡ true → Permitted N i → ⊥
unfolding misplaced
misplaced_broken N i e ok =
    let r = any_found (λ j. both (leb i.priority j.priority) (returns i.path j.path)) N.flows e in
    let p = leb-true i.priority r.0.priority (both_left (leb i.priority r.0.priority) (returns i.path r.0.path) r.2) in
    let f = returns-found i.path r.0.path (both_right (leb i.priority r.0.priority) (returns i.path r.0.path) r.2) in
    false_true (sym f.5 ∙ ok r.0 r.1 p f.0 f.1 f.2 f.3 f.4 f.6)
