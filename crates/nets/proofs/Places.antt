-- Places and nodes of a path: the place of a node, and what is before it and up to it. Assumes nothing.
use mathlib.Core.Path.{◌≡◌, refl, sym, ap, ◌∙◌}
use mathlib.Core.Bool.{Bool, true, false}
use mathlib.Core.Logic.{inl, inr}
use mathlib.Core.List.{List, [], ◌∷◌, Memᴰ}
use Prim.Native.Nat.{ℕ, zero, suc, ◌+◌, ◌≤◌, ◌<◌}
use native.Mathlib.Numerals.{add-one}
use native.Mathlib.Omega.{arith}
use lib.Dec.{eqb}
use lib.ListN.{length, get_or, take, drop}
use borrow.Author.Tests.{eq-eqb, ne_eqb, eqb-true, eqb-false}
use Rattle.least.specs.Count.{pick}
use Rattle.least.proofs.Fold.{false_true}
use Rattle.least.proofs.Lists.{drop_next, drop_past}
use Rattle.rules.specs.Net.{Hop}
use Rattle.rules.specs.Formula.{visits, prefix, before}
use Rattle.rules.specs.Valid.{Distinct}
use Rattle.rules.proofs.Path.{visits_member, visits-cases, rank_below}
use Rattle.nets.specs.Nets.{length_in, hop_in, path_in, no_hop, position_of}
use Rattle.nets.proofs.Reading.{path_length, path_at}

pub member_at : {A : Type 0} (l : List A) (k : ℕ) (d : A) → k < length l → Memᴰ (get_or l k d) l
member_at [] k d h = absurd (omega arith)
member_at (x ∷ l) zero d h = Memᴰ.head refl
member_at (x ∷ l) (suc k) d h = Memᴰ.tail (member_at l k d (omega arith))

-- a path visits the node at each place
pub visits_at : (l : List Hop) (k : ℕ) → k < length l → visits l (get_or l k no_hop).node ≡ true
visits_at l k h = visits_member (member_at l k no_hop h)

-- the nodes before h
module _ (h : ℕ) where
  pub before_length : (l : List Hop) → length (before h l) ≤ length l
  unfolding before
  before_length [] = omega arith
  before_length (k ∷ ks) = go (eqb k.node h) (before_length ks)
    where
      go : (b : Bool) → length (before h ks) ≤ length ks → length (pick b [] (k ∷ before h ks)) ≤ length (k ∷ ks)
      go true i = omega arith
      go false i = omega arith

  pub before_take : (l : List Hop) → before h l ≡ take (length (before h l)) l
  unfolding before
  before_take [] = refl
  before_take (k ∷ ks) = go (eqb k.node h) (before_take ks)
    where
      go : (b : Bool) → before h ks ≡ take (length (before h ks)) ks → pick b [] (k ∷ before h ks) ≡ take (length (pick b [] (k ∷ before h ks))) (k ∷ ks)
      go true i = refl
      go false i = ap (λ r. k ∷ r) i

-- a node visited is at its position
pub position_below : (l : List Hop) (h : ℕ) → visits l h ≡ true → position_of h l < length l
position_below l h v = rank_below (record { number = 0; priority = 0; period = 0; jitter = 0; deadline = 0; path = l }) h v

pub position_node : (l : List Hop) (h : ℕ) → visits l h ≡ true → (get_or l (position_of h l) no_hop).node ≡ h
unfolding before
position_node [] h v = absurd (omega (arith, position_below [] h v))
position_node (k ∷ ks) h v = go (eqb k.node h) refl (position_node ks h)
  where
    go : (b : Bool) → eqb k.node h ≡ b → (visits ks h ≡ true → (get_or ks (position_of h ks) no_hop).node ≡ h) →
        (get_or (k ∷ ks) (length (pick b [] (k ∷ before h ks))) no_hop).node ≡ h
    go true e ih = eqb-true k.node h e
    go false e ih = elim (visits-cases k ks h v) [ inl q ↦ false_true (sym e ∙ eq-eqb k.node h q) | inr q ↦ ih q ]

-- where no node is twice, the position of the node at place k is k
pub position_at : (l : List Hop) → Distinct l → (k : ℕ) → k < length l → position_of (get_or l k no_hop).node l ≡ k
unfolding before
position_at [] d k h = absurd (omega arith)
position_at (x ∷ l) d zero h = rw (eq-eqb x.node x.node refl)
position_at (x ∷ l) d (suc k) h = go (eqb x.node n) refl (position_at l d.1 k (omega arith))
  where
    n : ℕ
    n = (get_or l k no_hop).node

    go : (b : Bool) → eqb x.node n ≡ b → position_of n l ≡ k → length (pick b [] (x ∷ before n l)) ≡ suc k
    go true e ih = false_true (sym d.0 ∙ ap (visits l) (eqb-true x.node n e) ∙ visits_at l k (omega arith))
    go false e ih = ap suc ih

-- of a flow's own path
module _ (net : List ℕ) (a : ℕ) (d : Distinct (path_in net a)) where
  pub own_place : (k : ℕ) → k < length_in net a → position_of (hop_in net a k).node (path_in net a) ≡ k
  own_place k h =
      ap (λ (q : Hop). position_of q.node (path_in net a)) (sym (path_at net a k h)) ∙ position_at (path_in net a) d k (omega (arith, path_length net a))

  pub own_same : (k p : ℕ) → k < length_in net a → p < length_in net a → eqb (hop_in net a k).node (hop_in net a p).node ≡ eqb k p
  own_same k p i j = go (eqb k p) refl
    where
      go : (t : Bool) → eqb k p ≡ t → eqb (hop_in net a k).node (hop_in net a p).node ≡ t
      go true e = eq-eqb _ _ (ap (λ q. (hop_in net a q).node) (eqb-true k p e))
      go false e = ne_eqb _ _ (λ q. eqb-false k p e (sym (own_place k i) ∙ ap (λ n. position_of n (path_in net a)) q ∙ own_place p j))

-- the prefix at a node
pub prefix-take : (h : ℕ) (l : List Hop) → prefix h l ≡ take (suc (position_of h l)) l
unfolding prefix before
prefix-take h [] = refl
prefix-take h (k ∷ ks) = go (eqb k.node h) (prefix-take h ks)
  where
    go : (b : Bool) → prefix h ks ≡ take (suc (position_of h ks)) ks →
        k ∷ pick b [] (prefix h ks) ≡ take (suc (length (pick b [] (k ∷ before h ks)))) (k ∷ ks)
    go true ih = refl
    go false ih = ap (λ r. k ∷ r) ih

pub prefix_at : (l : List Hop) → Distinct l → (k : ℕ) → k < length l → prefix (get_or l k no_hop).node l ≡ take (k + 1) l
prefix_at l d k h = prefix-take (get_or l k no_hop).node l ∙ ap (λ n. take n l) (ap suc (position_at l d k h) ∙ sym (add-one k))

-- looking for the node h on the path of flow b: x is the node at place k, n how many there are
module _ (net : List ℕ) (b n k h : ℕ) (len : n ≡ length_in net b) (e : ℕ) (inv : k + position_of h (drop k (path_in net b)) ≡ e) where
  module _ (x : ℕ) (i : k < n) (q : x ≡ (hop_in net b k).node) where
    next : drop k (path_in net b) ≡ hop_in net b k ∷ drop (k + 1) (path_in net b)
    next =
        drop_next (path_in net b) k no_hop (omega (arith, path_length net b)) ∙ ap (λ r. r ∷ drop (k + 1) (path_in net b)) (path_at net b k (omega arith))

    pub position_more : (x ≡ h → ⊥) → k + 1 + position_of h (drop (k + 1) (path_in net b)) ≡ e
    unfolding before
    position_more t =
        let z : k + length (hop_in net b k ∷ before h (drop (k + 1) (path_in net b))) ≡ e = rw (next, ne_eqb _ _ (λ s. t (q ∙ s))) at inv in
        omega arith

    pub position_here : x ≡ h → k ≡ e
    unfolding before
    position_here t = let z : k + length {A = Hop} [] ≡ e = rw (next, eq-eqb _ _ (sym q ∙ t)) at inv in omega arith

  pub position_end : n ≤ k → k ≡ e
  unfolding before
  position_end i =
      let z : k + length {A = Hop} [] ≡ e = rw (drop_past (path_in net b) k (omega (arith, path_length net b))) at inv in
      omega arith
