-- What is noted of a pair: how it is read, what is stored of it, and what stores keep. Assumes nothing.
use mathlib.Core.Path.{◌≡◌, refl, sym, ap, ◌∙◌}
use mathlib.Core.Bool.{Bool, true, false}
use mathlib.Core.Logic.{◌⊎◌, inl, inr}
use mathlib.Core.List.{List}
use Prim.Native.Nat.{ℕ, ◌+◌, ◌*◌, ◌≤◌, ◌<◌}
use native.Mathlib.Omega.{arith}
use denote.Enum.Declared.{tag_of}
use native.Mathlib.Nat.{mul-le-mul_right}
use lib.Dec.{ltb, eqb}
use lib.ListN.{length, take, set, length-set}
use lib.Seq.{get_or-set_same, get_or-set_other}
use borrow.Author.Count.{below_more}
use borrow.Author.Tests.{ltb-true}
use Rattle.least.specs.Count.{pick}
use Rattle.least.specs.Lists.{values, First, Ahead}
use Rattle.least.proofs.Lists.{first_same}
use Rattle.least.proofs.Stores.{ahead_none, ahead_set, ahead_then}
use Rattle.rules.specs.Formula.{role, first_on}
use Rattle.nets.specs.Nets.{count_in, room_in, length_in, hop_in, path_in, flow_in, position_of}
use Rattle.nets.proofs.Reading.{path_length}
use Rattle.nets.proofs.Places.{before_length}
use Rattle.crossings.specs.declared.Role as declared
use Rattle.crossings.specs.declared.Role.TheVariants as code
use Rattle.crossings.specs.contracts.Role.{the_type}
use Rattle.crossings.specs.Pairs.{place_on, role_of, side_number, along_to, pair_size, pair_at, PairIs, Noted}
use Rattle.crossings.proofs.Turns.{along_turn}

-- the place of a node, as it is worked out
module _ (net : List ℕ) (a b k : ℕ) where
  pub place_made : (x h : ℕ) → x ≡ position_of h (path_in net b) → h ≡ (hop_in net a k).node → x ≡ place_on net a b k
  unfolding place_on
  place_made x h e q = e ∙ ap (λ n. position_of n (path_in net b)) q

-- a place is at most as many as the path has nodes
pub place_most : (net : List ℕ) (a b k : ℕ) → place_on net a b k ≤ length_in net b
unfolding place_on
place_most net a b k = omega (arith, before_length (hop_in net a k).node (path_in net b), path_length net b)

-- what is read of two flows: the pair begins at `at`, w is the room for nodes
module _ (net bytes : List ℕ) (a b : ℕ) (q : Noted net bytes a b) (at : ℕ) (e : at ≡ pair_at net a b) where
  noted : PairIs net bytes a b
  noted = q.all.each a b q.one q.other

  module _ (w : ℕ) (v : w ≡ room_in net) where
    mark : (d r : ℕ) → r ≡ values bytes (at + w + d) → values bytes (pair_at net a b + room_in net + d) ≡ r
    mark d r s = ap (λ x. values bytes (pair_at net a b + x + d)) (sym v) ∙ ap (λ x. values bytes (x + w + d)) (sym e) ∙ sym s

    pub read_turn : (r : ℕ) → r ≡ values bytes (at + w + 2) → (p : ℕ) → p < length_in net a →
        eqb (first_on (path_in net b) (take (p + 1) (path_in net a))) (first_on (take (p + 1) (path_in net a)) (path_in net b)) ≡ ltb p r
    read_turn r s p h = along_turn net a b p h _ noted.first _ noted.turn ∙ ap (ltb p) (mark 2 r s)

-- b is higher or equal and runs along, by what it is
module _ (net : List ℕ) (a b p : ℕ) (s : declared.Role) (e : role_of s ≡ role (flow_in net a) (flow_in net b)) where
  pub not_along : (s ≡ code.Own) ⊎ (s ≡ code.Lower) → false ≡ along_to net a b p
  unfolding along_to
  not_along (inl q) = rw (← e, q)
  not_along (inr q) = rw (← e, q)

  pub side_along : (s ≡ code.Higher) ⊎ (s ≡ code.Equal) → (t : Bool) →
      eqb (first_on (path_in net b) (take (p + 1) (path_in net a))) (first_on (take (p + 1) (path_in net a)) (path_in net b)) ≡ t → t ≡ along_to net a b p
  unfolding along_to
  side_along (inl q) t r = rw (← e, q) (sym r)
  side_along (inr q) t r = rw (← e, q) (sym r)

-- the variant's number
pub tag_number : (s : declared.Role) → tag_of the_type s ≡ side_number (role_of s)
tag_number code.Own = refl
tag_number code.Higher = refl
tag_number code.Equal = refl
tag_number code.Lower = refl

-- stores from a place on
pub places_more : (g : ℕ → ℕ) (l : List ℕ) (at k x : ℕ) → at + k < length l → x ≡ g k → ((j : ℕ) → j < k → values l (at + j) ≡ g j) →
    (j : ℕ) → j < k + 1 → values (set l (at + k) x) (at + j) ≡ g j
places_more g l at k x q e inv =
    below_more (λ j. values (set l (at + k) x) (at + j) ≡ g j) k (λ j r. get_or-set_other l (at + k) (at + j) x 0 (λ s. omega arith) ∙ inv j r)
    (get_or-set_same l (at + k) x 0 q ∙ e)

-- the pair is stored: places, then side, first shared place and turn behind them
module _ (net l : List ℕ) (a b : ℕ) (fits : pair_at net a b + pair_size net ≤ length l)
    (places : (k : ℕ) → k < length_in net a → values l (pair_at net a b + k) ≡ place_on net a b k) (s f t : ℕ) where
  abbrev at : ℕ
  at = pair_at net a b

  abbrev w : ℕ
  w = room_in net

  abbrev sided : List ℕ
  sided = set l (at + w) s

  abbrev opened : List ℕ
  opened = set sided (at + w + 1) f

  abbrev turned : List ℕ
  turned = set opened (at + w + 2) t

  -- what stands before the three is kept
  sided-places : (k : ℕ) → k < length_in net a → values sided (at + k) ≡ place_on net a b k
  sided-places k h = get_or-set_other l (at + w) (at + k) s 0 (λ e. omega arith) ∙ places k h

  opened-places : (k : ℕ) → k < length_in net a → values opened (at + k) ≡ place_on net a b k
  opened-places k h = get_or-set_other sided (at + w + 1) (at + k) f 0 (λ e. omega arith) ∙ sided-places k h

  turned-first : values turned (at + w + 1) ≡ f
  turned-first =
      get_or-set_other opened (at + w + 2) (at + w + 1) t 0 (λ e. omega arith)
      ∙ get_or-set_same sided (at + w + 1) f 0 (omega (arith, length-set l (at + w) s))

  turned_turn : values turned (at + w + 2) ≡ t
  turned_turn = get_or-set_same opened (at + w + 2) t 0 (omega (arith, length-set l (at + w) s, length-set sided (at + w + 1) f))

  module _ (first : First (λ k. values sided (at + k)) (length_in net a) (length_in net b) f)
      (turn : First (λ k. values opened (at + k)) (length_in net a) (pick (ltb f (length_in net a)) (values opened (at + f)) 0) t) where
    bound : (c : Bool) → ltb f (length_in net a) ≡ c → pick c (values opened (at + f)) 0 ≡ pick c (place_on net a b f) 0
    bound true e = opened-places f (ltb-true f (length_in net a) e)
    bound false e = refl

    pair-noted : s ≡ side_number (role (flow_in net a) (flow_in net b)) → PairIs net turned a b
    pair-noted q = record {
      places = λ k h. get_or-set_other opened (at + w + 2) (at + k) t 0 (λ e. omega arith) ∙ opened-places k h;
      side =
          get_or-set_other opened (at + w + 2) (at + w) t 0 (λ e. omega arith)
          ∙ get_or-set_other sided (at + w + 1) (at + w) f 0 (λ e. omega arith)
          ∙ get_or-set_same l (at + w) s 0 (omega arith)
          ∙ q;
      first = rw turned-first (first_same _ (place_on net a b) (length_in net a) (length_in net b) f sided-places first);
      turn = rw (turned-first, turned_turn, ← bound (ltb f (length_in net a)) refl) (first_same _ (place_on net a b) (length_in net a) _ t opened-places turn);
    }

    ahead-noted : Ahead at l turned
    ahead-noted =
        ahead_set at l opened (ahead_set at l sided (ahead_set at l l (ahead_none at l) (at + w) s (omega arith)) (at + w + 1) f (omega arith)) (at + w + 2)
        t (omega arith)

-- the same of the numbers as the code has them
pub pair-stored : (net l₀ l : List ℕ) (a b : ℕ) → pair_at net a b + pair_size net ≤ length l₀ → Ahead (pair_at net a b) l₀ l →
    ((k : ℕ) → k < length_in net a → values l (pair_at net a b + k) ≡ place_on net a b k) →
    (at w m n s f bound t : ℕ) → at ≡ pair_at net a b → w ≡ room_in net → m ≡ length_in net a → n ≡ length_in net b →
    s ≡ side_number (role (flow_in net a) (flow_in net b)) →
    First (λ k. values (set l (at + w) s) (at + k)) m n f →
    bound ≡ pick (ltb f m) (values (set (set l (at + w) s) (at + w + 1) f) (at + f)) 0 →
    First (λ k. values (set (set l (at + w) s) (at + w + 1) f) (at + k)) m bound t →
    PairIs net (set (set (set l (at + w) s) (at + w + 1) f) (at + w + 2) t) a b
    × Ahead (pair_at net a b) l₀ (set (set (set l (at + w) s) (at + w + 1) f) (at + w + 2) t)
pair-stored net l₀ l a b fits h places at w m n s f bound t e v p q side first z turn =
    let i : pair_at net a b + pair_size net ≤ length l = omega (arith, h.long) in
    let first' = rw (e, v, p, q) at first in
    let turn' = rw (z, e, v, p) at turn in
    rw (e, v) (
      pair-noted net l a b i places s f t first' turn' side,
      ahead_then (pair_at net a b) l₀ l h _ _ (omega arith) (ahead-noted net l a b i places s f t first' turn'),
    )

-- a pair is kept while later ones are stored
module _ (net l l' : List ℕ) (a b a' b' : ℕ) (less : a' * count_in net + b' < a * count_in net + b) (h : Ahead (pair_at net a b) l l') where
  same : (i : ℕ) → i < pair_at net a' b' + pair_size net → values l' i ≡ values l i
  same i q =
      h.before i
      (omega (arith, mul-le-mul_right {m = a' * count_in net + b' + 1} {n = a * count_in net + b} (pair_size net) (omega arith)))

  pub pair_kept : PairIs net l a' b' → PairIs net l' a' b'
  pair_kept p =
      let f = same (pair_at net a' b' + room_in net + 1) (omega arith) in
      let t = same (pair_at net a' b' + room_in net + 2) (omega arith) in
      record {
        places = λ k q. same (pair_at net a' b' + k) (omega arith) ∙ p.places k q;
        side = same (pair_at net a' b' + room_in net) (omega arith) ∙ p.side;
        first = rw f p.first;
        turn = rw (f, t) p.turn;
      }

-- the pairs of a flow in turn, and the flows
module _ (net l l' : List ℕ) (a : ℕ) where
  pub pair_more : (b : ℕ) → ((j : ℕ) → j < b → PairIs net l a j) → PairIs net l' a b → Ahead (pair_at net a b) l l' → (j : ℕ) → j < b + 1 → PairIs net l' a j
  pair_more b old new h = below_more (PairIs net l' a) b (λ j q. pair_kept net l l' a b a j (omega arith) h (old j q)) new

  pub flow_more : ((i b : ℕ) → i < a → b < count_in net → PairIs net l i b) → ((b : ℕ) → b < count_in net → PairIs net l' a b) →
      Ahead (pair_at net a 0) l l' → (i b : ℕ) → i < a + 1 → b < count_in net → PairIs net l' i b
  flow_more old new h i b p q =
      below_more (λ j. PairIs net l' j b) a
      (λ j r. pair_kept net l l' a 0 j b (omega (arith, mul-le-mul_right {m = j + 1} {n = a} (count_in net) (omega arith))) h (old j b r q)) (new b q) i p
