-- The entries by place are the rules': what one node more of a prefix changes, and what is found going along a path. Assumes nothing.
use mathlib.Core.Path.{◌≡◌, refl, sym, ap, ap₂, ◌∙◌}
use mathlib.Core.Bool.{Bool, true, false, not}
use mathlib.Core.Logic.{inl, inr}
use mathlib.Core.List.{List, [], ◌∷◌, ◌++◌}
use Prim.Native.Nat.{ℕ, zero, suc, ◌+◌, ◌≤◌, ◌<◌, min}
use native.Mathlib.Numerals.{add-one}
use native.Mathlib.Omega.{arith}
use lib.Dec.{ltb, eqb}
use lib.ListN.{length, get_or, take}
use lib.Seq.{get_or-take, length-take-le}
use borrow.Author.Tests.{lt-ltb, le-ltb, ltb-true, ltb-false}
use Rattle.least.specs.Count.{pick}
use Rattle.least.specs.Fold.{sum_of}
use Rattle.least.specs.Lists.{list_to, First}
use Rattle.least.proofs.Count.{le_or-lt}
use Rattle.least.proofs.Fold.{any_at}
use Rattle.rules.specs.Net.{Hop, Flow, Net}
use Rattle.rules.specs.Formula.{Role, Own, Higher, Equal, both, role, lower, visits, first_on, last_on, cost_at, crosses, smin, M}
use Rattle.rules.specs.Valid.{Distinct, Valid}
use Rattle.nets.specs.Nets.{count_in, room_in, length_in, field_in, hop_in, path_in, flow_in, flows_in, net_in, no_hop, flow_at, node_at, position_of}
use Rattle.nets.proofs.Reading.{path_length, path_at, path_front, flows_length, flow_at_lem}
use Rattle.nets.proofs.Places.{member_at, visits_at, before_take, own_place, own_same}
use Rattle.nets.proofs.Sets.{flow_here_lem, distinct_in, one-flow, own_number}
use Rattle.crossings.specs.Pairs.{place_on}
use Rattle.crossings.proofs.Meeting.{cross_first, place_is, place_passes}
use Rattle.crossings.proofs.Turns.{least_shared, first_shared}
use Rattle.crossings.proofs.Costs.{slowest_to, own_cost, own_slowest}
use Rattle.terms.specs.Terms.{smin_to, way_to}
use Rattle.blocks.specs.Sheet.{here_slot, node_slot}
use Rattle.frames.specs.Frames.{Entry}
use Rattle.entries.specs.Fields.{up_to, arrival_by, entry_of, counted, added_of}
use Rattle.entries.specs.Rows.{arrival_at, last_to, near_to, higher_at, equal_at, own_at}

-- the last node shared is the new one, if it is shared
last_snoc : (k : Hop) (h : ℕ) (P b : List Hop) → last_on h (P ++ (k ∷ [])) b ≡ pick (visits b k.node) k.node (last_on h P b)
unfolding last_on
last_snoc k h [] b = refl
last_snoc k h (q ∷ P) b = last_snoc k (pick (visits b q.node) q.node h) P b

under : (t : Bool) (x y m : ℕ) → x ≤ m → y ≤ m → pick t x y ≤ m
under true x y m p q = p
under false x y m p q = q

-- the places of the path of a, on that of b
module _ (net : List ℕ) (a b : ℕ) where
  abbrev A : List Hop
  A = path_in net a

  abbrev B : List Hop
  B = path_in net b

  abbrev node : ℕ → ℕ
  node k = (hop_in net a k).node

  abbrev place : ℕ → ℕ
  place k = place_on net a b k

  abbrev near : ℕ → ℕ
  near n = near_to net a b n

  abbrev last : ℕ → ℕ
  last n = last_to net a b n

  near-below : (p : ℕ) → near (suc p) ≤ p
  unfolding near_to
  near-below zero = under (ltb (place 0) (place 0)) 0 0 0 (omega arith) (omega arith)
  near-below (suc p) = under (ltb (place (suc p)) (place (near (suc p)))) (suc p) (near (suc p)) (suc p) (omega arith) (omega (arith, near-below p))

  near_first : place (near 1) ≡ place 0
  near_first = ap place {x = near 1} {y = 0} (omega (arith, near-below 0))

  near_step : (p : ℕ) → place (near (suc p)) ≡ min (place (near p)) (place p)
  unfolding near_to
  near_step p = go (ltb (place p) (place (near p))) refl
    where
      go : (t : Bool) → ltb (place p) (place (near p)) ≡ t → place (pick t p (near p)) ≡ min (place (near p)) (place p)
      go true e = omega (arith, ltb-true (place p) (place (near p)) e)
      go false e = omega (arith, ltb-false (place p) (place (near p)) e)

  near-least : (p k : ℕ) → k ≤ p → place (near (suc p)) ≤ place k
  near-least zero k i = omega (arith, near_first, ap place {x = k} {y = 0} (omega arith))
  near-least (suc p) k i = elim (le_or-lt k p) [
    | inl q ↦ omega (arith, near_step (suc p), near-least p k q)
    | inr q ↦ omega (arith, near_step (suc p), ap place {x = k} {y = suc p} (omega arith))
  ]

  pub last_below : (p : ℕ) → last (suc p) ≤ p
  unfolding last_to
  last_below zero = under (ltb (place 0) (length_in net b)) 0 0 0 (omega arith) (omega arith)
  last_below (suc p) = under (ltb (place (suc p)) (length_in net b)) (suc p) (last (suc p)) (suc p) (omega arith) (omega (arith, last_below p))

  -- f is the first place that they share
  module _ (f : ℕ) (first : First place (length_in net a) (length_in net b) f) where
    last-is : (h n : ℕ) → n ≤ length_in net a → f < n → last_on h (list_to (hop_in net a) n) B ≡ node (last n)
    unfolding last_to list_to
    last-is h zero i q = absurd (omega arith)
    last-is h (suc n) i q =
        last_snoc (hop_in net a n) h (list_to (hop_in net a) n) B
        ∙ ap (λ t. pick t (node n) (last_on h (list_to (hop_in net a) n) B)) (sym (place_passes net a b n (place n) (length_in net b) refl refl))
        ∙ go (ltb (place n) (length_in net b)) refl (last-is h n (omega arith))
      where
        go : (t : Bool) → ltb (place n) (length_in net b) ≡ t → (f < n → last_on h (list_to (hop_in net a) n) B ≡ node (last n)) →
            pick t (node n) (last_on h (list_to (hop_in net a) n) B) ≡ node (pick t n (last n))
        go true e ih = refl
        go false e ih = elim (le_or-lt n f) [
          | inl z ↦ absurd (omega (arith, ltb-false (place n) (length_in net b) e, first.found (omega arith), ap place {x = f} {y = n} (omega arith)))
          | inr z ↦ ih z
        ]

    module _ (p : ℕ) (i : p < length_in net a) where
      last-shared : f ≤ p → (h : ℕ) → last_on h (take (p + 1) A) B ≡ node (last (suc p))
      last-shared q h = ap (λ P. last_on h P B) (path_front net a (p + 1) (omega arith)) ∙ rw (add-one p) (last-is h (suc p) i (omega arith))

      near-shared : f ≤ p → first_on B (take (p + 1) A) ≡ node (near (suc p))
      near-shared q =
          least_shared net a b p i (near (suc p)) (near-below p) (omega (arith, near-least p f q, first.found (omega arith))) (near-least p)

      -- of the prefix they share a node if the first stands in it
      cross-shared : crosses (take (p + 1) A) B ≡ ltb f (p + 1)
      cross-shared = cross_first (take (p + 1) A) B place is (min f (p + 1)) part ∙ ap (ltb (min f (p + 1))) long ∙ less
        where
          long : length (take (p + 1) A) ≡ p + 1
          long = length-take-le (p + 1) A (omega (arith, path_length net a))

          is : (k : ℕ) → k < length (take (p + 1) A) → place k ≡ position_of (get_or (take (p + 1) A) k no_hop).node B
          is k h =
              place_is net a b k (omega (arith, long, path_length net a))
              ∙ ap (λ (q : Hop). position_of q.node B) (sym (get_or-take (p + 1) A k no_hop (omega (arith, long))))

          part : First place (length (take (p + 1) A)) (length B) (min f (p + 1))
          part = record {
            most = omega (arith, long);
            before = λ k h. omega (arith, path_length net b, first.before k (omega arith));
            found = λ h. omega (arith, long, path_length net b, first.found (omega (arith, long)), ap place {x = min f (p + 1)} {y = f} (omega (arith, long)));
          }

          less : ltb (min f (p + 1)) (p + 1) ≡ ltb f (p + 1)
          less = elim (le_or-lt f p) [
            | inl q ↦ lt-ltb (min f (p + 1)) (p + 1) (omega arith) ∙ sym (lt-ltb f (p + 1) (omega arith))
            | inr q ↦ le-ltb (min f (p + 1)) (p + 1) (omega arith) ∙ sym (le-ltb f (p + 1) (omega arith))
          ]

-- Smin and M by place
smin_to_lem : (N : Net) (j : Flow) (h : ℕ) → smin N j h ≡ smin_to N j (position_of h j.path)
unfolding smin
smin_to_lem N j h = ap (sum_of _) (before_take h j.path)

way_to_lem : (N : Net) (i : Flow) (h : ℕ) → M N i h ≡ way_to N i (position_of h i.path)
unfolding M
way_to_lem N i h = ap (sum_of _) (before_take h i.path)

entry_same : {l l' p p' m m' t w w' : ℕ} → l ≡ l' → p ≡ p' → m ≡ m' → w ≡ w' →
    ◌≡◌ {A = Entry} (record { look = l; plus = p; less = m; period = t; weight = w }) (record { look = l'; plus = p'; less = m'; period = t; weight = w' })
entry_same e f g h = cc

-- a path crosses its prefixes
cross_own : (l : List Hop) (p : ℕ) → p < length l → crosses (take (p + 1) l) l ≡ true
unfolding crosses
cross_own l p h =
    any_at (λ k. visits (take (p + 1) l) k.node) (member_at l p no_hop h)
    (ap (λ (q : Hop). visits (take (p + 1) l) q.node) (sym (get_or-take (p + 1) l p no_hop (omega arith)))
    ∙ visits_at (take (p + 1) l) p (omega (arith, length-take-le (p + 1) l (omega arith))))

-- the fields of a sheet but its entries
module _ (net : List ℕ) (val : Valid (net_in net)) (a : ℕ) (one : a < count_in net) (p : ℕ) (on : p < length_in net a) where
  pub upto_at : up_to (flow_at (net_in net) a) p ≡ take (p + 1) (path_in net a)
  upto_at = ap (λ (i : Flow). up_to i p) (flow_at_lem net a one)

  pub node_at_lem : node_at (flow_at (net_in net) a) p ≡ (hop_in net a p).node
  node_at_lem = ap (λ (i : Flow). node_at i p) (flow_at_lem net a one) ∙ ap (λ (q : Hop). q.node) (path_at net a p on)

  pub added_at : (hop_in net a p).cost + field_in net a 3 ≡ added_of (flow_at (net_in net) a) (node_at (flow_at (net_in net) a) p)
  unfolding added_of
  added_at =
      ap (λ c. c + field_in net a 3) (sym (own_cost net a (distinct_in net val a one) p on))
      ∙ ap₂ (λ (i : Flow) h. cost_at i.path h + i.jitter) (sym (flow_at_lem net a one)) (sym node_at_lem)

-- the entry of b at place p of a's path
module _ (net : List ℕ) (val : Valid (net_in net)) (a b : ℕ) (one : a < count_in net) (other : b < count_in net) (r : ℕ → ℕ) (p : ℕ)
    (on : p < length_in net a) where
  abbrev N : Net
  N = net_in net

  abbrev P : List Hop
  P = take (p + 1) (path_in net a)

  abbrev entry : Role → Entry
  entry ρ = entry_of N (room_in net) r a P (hop_in net a p).node b ρ

  distinct : Distinct (path_in net a)
  distinct = distinct_in net val a one

  role-at : role (flow_at N a) (flow_at N b) ≡ role (flow_in net a) (flow_in net b)
  role-at = ap₂ role (flow_at_lem net a one) (flow_at_lem net b other)

  -- where b is a itself
  module _ (own : role (flow_in net a) (flow_in net b) ≡ Own) where
    pub own_at_lem : entry (role (flow_at N a) (flow_at N b)) ≡ own_at net a p
    unfolding entry_of own_at
    own_at_lem = ap entry (role-at ∙ own) ∙ rw (flow_at_lem net a one, own_slowest net a distinct (p + 1) (omega arith))

    pub counted_own : (w h : ℕ) → counted N w r a P h b ≡ true
    unfolding counted
    counted_own w h = rw (role-at, own, ← same, flow_at_lem net a one) (cross_own (path_in net a) p (omega (arith, path_length net a)))
      where
        same : flow_at N a ≡ flow_at N b
        same =
            one-flow (flows_in net) val.rising (flow_at N a) (flow_at N b) (flow_here_lem N a (omega (arith, flows_length net))) (flow_here_lem N b (omega (arith, flows_length net)))
            (own_number (flow_at N a) (flow_at N b) (role-at ∙ own))

  -- f is the first place that they share
  module _ (f : ℕ) (first : First (place_on net a b) (length_in net a) (length_in net b) f) where
    pub counted_at : (w h : ℕ) → counted N w r a P h b ≡ both (not (lower (role (flow_in net a) (flow_in net b)))) (ltb f (p + 1))
    unfolding counted
    counted_at w h = rw (flow_at_lem net a one, flow_at_lem net b other, cross-shared net a b f first p on)

    -- where the prefix has it: l is the last, g the one that b passes first
    module _ (q : f ≤ p) where
      abbrev l : ℕ
      l = last_to net a b (suc p)

      abbrev g : ℕ
      g = near_to net a b (suc p)

      first_arrival : arrival_by N (room_in net) r b (hop_in net a f).node (path_in net b) ≡ arrival_at net r b (place_on net a b f)
      unfolding arrival_by arrival_at place_on
      first_arrival = refl

      near_arrival : arrival_by N (room_in net) r a (hop_in net a g).node (path_in net a) ≡ arrival_at net r a g
      unfolding arrival_by arrival_at
      near_arrival = rw (own_place net a distinct g (omega (arith, near-below net a b p)))

      way_at : M N (flow_in net a) (hop_in net a f).node ≡ way_to N (flow_in net a) f
      way_at = way_to_lem N (flow_in net a) (hop_in net a f).node ∙ ap (way_to N (flow_in net a)) (own_place net a distinct f (omega arith))

      smin-at : (k : ℕ) → smin N (flow_in net b) (hop_in net a k).node ≡ smin_to N (flow_in net b) (place_on net a b k)
      unfolding place_on
      smin-at k = smin_to_lem N (flow_in net b) (hop_in net a k).node

      pub higher_at_lem : role (flow_in net a) (flow_in net b) ≡ Higher → entry (role (flow_at N a) (flow_at N b)) ≡ higher_at net a b r f p
      unfolding entry_of higher_at
      higher_at_lem e =
          ap entry (role-at ∙ e)
          ∙ rw (
            flow_at_lem net a one,
            flow_at_lem net b other,
            last-shared net a b f first p on q (hop_in net a p).node,
            first_shared net a b p on f first q,
            slowest_to net a b (distinct_in net val b other) (p + 1) (omega arith),
          ) (entry_same look (omega (arith, first_arrival)) (omega (arith, smin-at l, way_at)) refl)
        where
          look : pick (eqb (hop_in net a l).node (hop_in net a p).node) here_slot (node_slot (position_of (hop_in net a l).node (path_in net a)))
              ≡ pick (eqb l p) here_slot (node_slot l)
          look =
              let i : l < length_in net a = omega (arith, last_below net a b p) in
              ap₂ (λ t n. pick t here_slot (node_slot n)) (own_same net a distinct l p i on) (own_place net a distinct l i)

      pub equal_at_lem : role (flow_in net a) (flow_in net b) ≡ Equal → entry (role (flow_at N a) (flow_at N b)) ≡ equal_at net a b r f p
      unfolding entry_of equal_at
      equal_at_lem e =
          ap entry (role-at ∙ e)
          ∙ rw (
            flow_at_lem net a one,
            flow_at_lem net b other,
            near-shared net a b f first p on q,
            first_shared net a b p on f first q,
            slowest_to net a b (distinct_in net val b other) (p + 1) (omega arith),
          ) (entry_same refl (omega (arith, first_arrival, near_arrival)) (omega (arith, smin-at g, way_at)) refl)
