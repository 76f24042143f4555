-- What is read of whole paths by place is, for a valid set, what the rules take of the nodes shared with a's path. Assumes nothing.
use mathlib.Core.Path.{◌≡◌, sym, ap, ap₂, ◌∙◌}
use mathlib.Core.Bool.{true}
use mathlib.Core.Logic.{inl, inr}
use mathlib.Core.List.{List, [], ◌∷◌, Memᴰ}
use Prim.Native.Nat.{ℕ, zero, suc, ◌+◌, ◌-◌, ◌*◌, ◌≤◌, ◌<◌, max}
use native.Mathlib.Numerals.{add-one}
use native.Mathlib.Omega.{arith}
use lib.Dec.{eqb}
use lib.ListN.{length, get_or, take, length-take}
use lib.Seq.{take_all}
use borrow.Author.Tests.{eq-eqb, ne_eqb, lt-ltb, le-ltb}
use Rattle.least.specs.Count.{pick}
use Rattle.least.specs.Fold.{sum_of, max_of, min_of, max_to, min_to}
use Rattle.least.specs.Lists.{list_to}
use Rattle.least.proofs.Count.{le_or-lt}
use Rattle.least.proofs.Fold.{max-map, sum_to_ext}
use Rattle.least.proofs.Lists.{length_to, at_to}
use Rattle.least.proofs.Ranges.{max_to_ext, min_to_ext, min_map, sum_listed, max_listed, min_listed, listed_member}
use Rattle.rules.specs.Net.{Hop}
use Rattle.rules.specs.Formula.{Crossing, both, role, higher_or_equal, lower, visits, cost_at, crossings, runs_along, along, least_cost, slowest, earliest, slowest_node, greatest_cost, lower_cost, term4, term5, term6}
use Rattle.rules.specs.Valid.{Valid}
use Rattle.rules.proofs.Path.{visits_member, visits-hop}
use Rattle.rules.proofs.Shared.{shared, visits_shared, there_shared, first_of_shared, first_on_shared}
use Rattle.nets.specs.Nets.{count_in, length_in, hop_in, path_in, flow_in, flows_in, net_in, no_hop}
use Rattle.nets.proofs.Reading.{path_length, path_front}
use Rattle.nets.proofs.Places.{own_same}
use Rattle.nets.proofs.Sets.{distinct_in}
use Rattle.crossings.specs.Pairs.{cost_on, along_to}
use Rattle.crossings.proofs.Costs.{cost-on, own_cost, own_slowest}
use Rattle.terms.specs.Terms.{base_of, smin_to, way_to}
use Rattle.terms.specs.Whole.{least_by, greatest_by, lower_by, least_over, greatest_over, lower_over, slower_of, slowest_to, term4_by, term4_over, term5_over, base_over, smin_over, way_over}

-- the earliest of a cost
earliest_at : (c : ℕ) (l : List Hop) (s : ℕ) → s < length l → (get_or l s no_hop).cost ≡ c → ((k : ℕ) → k < s → (get_or l k no_hop).cost < c) →
    earliest c l ≡ (get_or l s no_hop).node
unfolding earliest
earliest_at c [] s i e h = absurd (omega arith)
earliest_at c (x ∷ l) zero i e h = rw (eq-eqb x.cost c e)
earliest_at c (x ∷ l) (suc s) i e h =
    rw (ne_eqb x.cost c (λ q. omega (arith, h 0 (omega arith)))) (earliest_at c l s (omega arith) e (λ k q. h (suc k) (omega arith)))

member-take : {A : Type 0} {x : A} (n : ℕ) (l : List A) → Memᴰ x (take n l) → Memᴰ x l
member-take {A = A} zero l x'' = elim x'' [ ]
member-take {A = A} (suc n) [] x4 = elim x4 [ ]
member-take (suc n) (y ∷ l) (Memᴰ.head e) = Memᴰ.head e
member-take (suc n) (y ∷ l) (Memᴰ.tail m) = Memᴰ.tail (member-take n l m)

visits-take : (n : ℕ) (l : List Hop) (k : Hop) → Memᴰ k (take n l) → visits l k.node ≡ true
visits-take n l k m = visits_member (member-take n l m)

visits_part : (n : ℕ) (l : List Hop) (h : ℕ) → visits (take n l) h ≡ true → visits l h ≡ true
visits_part n l h v = let r = visits-hop (take n l) h v in sym (ap (visits l) r.2) ∙ visits-take n l r.0 r.1

module _ (net : List ℕ) where
  module _ (a : ℕ) where
    abbrev crossing : ℕ → Crossing
    crossing b = record { flow = flow_in net b; part = shared (path_in net a) (path_in net b) }

    max-crossings : (f : Crossing → ℕ) → max_of f (crossings (net_in net) (flow_in net a)) ≡ max_to (count_in net) (λ b. f (crossing b))
    unfolding crossings flows_in
    max-crossings f = max-map f _ (flows_in net) ∙ max_listed (flow_in net) _ (count_in net)

    min-crossings : (d : ℕ) (f : Crossing → ℕ) → min_of d f (crossings (net_in net) (flow_in net a)) ≡ min_to d (count_in net) (λ b. f (crossing b))
    unfolding crossings flows_in
    min-crossings d f = min_map d f _ (flows_in net) ∙ min_listed (flow_in net) d _ (count_in net)

    visits_place : (k : ℕ) → k < length_in net a → visits (path_in net a) (hop_in net a k).node ≡ true
    unfolding path_in
    visits_place k h = visits_member (listed_member (hop_in net a) (length_in net a) k h)

    along-whole : (p b : ℕ) → along (flow_in net a) (take (p + 1) (path_in net a)) (crossing b) ≡ along_to net a b p
    unfolding along runs_along along_to
    along-whole p b =
        let P = take (p + 1) (path_in net a) in
        ap₂ (λ x y. both (higher_or_equal (role (flow_in net a) (flow_in net b))) (eqb x y))
        (first_of_shared (path_in net a) P (visits_part (p + 1) (path_in net a)) (path_in net b))
        (first_on_shared (path_in net a) P (path_in net b) (visits-take (p + 1) (path_in net a)))

    whole : (k : ℕ) → k < length_in net a → take (length_in net a - 1 + 1) (path_in net a) ≡ path_in net a
    whole k h = take_all (length_in net a - 1 + 1) (path_in net a) (omega (arith, path_length net a))

    pub smin_whole : (k : ℕ) → k ≤ length_in net a → smin_over net a k ≡ smin_to (net_in net) (flow_in net a) k
    unfolding smin_over
    smin_whole k h = sym (ap (sum_of _) (path_front net a k h) ∙ sum_listed (hop_in net a) _ k)

    -- the slowest place
    record Slowest (p s : ℕ) : Type 0 where
      most : s ≤ p
      greatest : (k : ℕ) → k ≤ p → (hop_in net a k).cost ≤ (hop_in net a s).cost
      earlier : (k : ℕ) → k < s → (hop_in net a k).cost < (hop_in net a s).cost

    module _ (p s : ℕ) (w : Slowest p s) where
      slowest-stays : (hop_in net a (suc p)).cost ≤ (hop_in net a s).cost → Slowest (suc p) s
      slowest-stays h = record { most = omega (arith, w.most); greatest = upto; earlier = w.earlier }
        where
          upto : (k : ℕ) → k ≤ suc p → (hop_in net a k).cost ≤ (hop_in net a s).cost
          upto k i = elim (le_or-lt k p) [
            | inl q ↦ w.greatest k q
            | inr q ↦ (let e : k ≡ suc p = omega arith in omega (arith, ap (λ n. (hop_in net a n).cost) e))
          ]

      slowest_moves : (hop_in net a s).cost < (hop_in net a (suc p)).cost → Slowest (suc p) (suc p)
      slowest_moves h = record { most = omega arith; greatest = upto; earlier = λ k i. omega (arith, w.greatest k (omega arith)) }
        where
          upto : (k : ℕ) → k ≤ suc p → (hop_in net a k).cost ≤ (hop_in net a (suc p)).cost
          upto k i = elim (le_or-lt k p) [
            | inl q ↦ omega (arith, w.greatest k q)
            | inr q ↦ (let e : k ≡ suc p = omega arith in omega (arith, ap (λ n. (hop_in net a n).cost) e))
          ]

    slowest-is : (p : ℕ) → Slowest p (slowest_to net a p)
    unfolding slowest_to slower_of
    slowest-is zero = record {
      most = omega arith;
      greatest = λ k h. (let e : k ≡ 0 = omega arith in omega (arith, ap (λ n. (hop_in net a n).cost) e));
      earlier = λ k h. absurd (omega arith);
    }
    slowest-is (suc p) = elim (le_or-lt (hop_in net a (suc p)).cost (hop_in net a (slowest_to net a p)).cost) [
      | inl q ↦ rw (le-ltb (hop_in net a (slowest_to net a p)).cost (hop_in net a (suc p)).cost q) (slowest-stays p (slowest_to net a p) (slowest-is p) q)
      | inr q ↦ rw (lt-ltb (hop_in net a (slowest_to net a p)).cost (hop_in net a (suc p)).cost q) (slowest_moves p (slowest_to net a p) (slowest-is p) q)
    ]

    slowest-most : (p : ℕ) → max_to (suc p) (λ k. (hop_in net a k).cost) ≡ (hop_in net a (slowest_to net a p)).cost
    unfolding max_to slowest_to slower_of
    slowest-most zero = omega arith
    slowest-most (suc p) = elim (le_or-lt (hop_in net a (suc p)).cost (hop_in net a (slowest_to net a p)).cost) [
      | inl q ↦ rw (le-ltb (hop_in net a (slowest_to net a p)).cost (hop_in net a (suc p)).cost q) (omega (arith, slowest-most p))
      | inr q ↦ rw (lt-ltb (hop_in net a (slowest_to net a p)).cost (hop_in net a (suc p)).cost q) (omega (arith, slowest-most p))
    ]

    module _ (v : Valid (net_in net)) (here : a < count_in net) where
      cost-shared : (b k : ℕ) → b < count_in net → k < length_in net a → cost_at (crossing b).part (hop_in net a k).node ≡ cost_on net a b k
      cost-shared b k h i =
          there_shared (path_in net a) (λ q. q.cost) (hop_in net a k).node (visits_place k i) (path_in net b)
          ∙ sym (cost-on net a b k (distinct_in net v b h))

      greatest-whole : (p k : ℕ) → k < length_in net a →
          greatest_cost (net_in net) (flow_in net a) (take (p + 1) (path_in net a)) (hop_in net a k) ≡ greatest_over net a p k
      unfolding greatest_cost greatest_over greatest_by
      greatest-whole p k i =
          ap (max (hop_in net a k).cost)
          (max-crossings _ ∙ max_to_ext (count_in net) _ _ (λ b h. ap₂ (λ t c. pick t c 0) (along-whole p b) (cost-shared b k h i)))

      lower-whole : (k : ℕ) → k < length_in net a → lower_cost (net_in net) (flow_in net a) (hop_in net a k) ≡ lower_over net a k
      unfolding lower_cost lower_over lower_by
      lower-whole k i =
          max-crossings _ ∙ max_to_ext (count_in net) _ _ (λ b h. ap (λ c. pick (lower (role (flow_in net a) (flow_in net b))) c 0) (cost-shared b k h i))

      least-whole : (k : ℕ) → k < length_in net a → least_cost (net_in net) (flow_in net a) (hop_in net a k) ≡ least_over net a k
      unfolding least_cost least_over least_by
      least-whole k i =
          min-crossings (hop_in net a k).cost _
          ∙ min_to_ext (hop_in net a k).cost (count_in net) _ _
          (λ b h. ap₂ (λ t c. pick t c (hop_in net a k).cost)
          (ap₂ both
          (ap (λ P. along (flow_in net a) P (crossing b)) (sym (whole k i)) ∙ along-whole (length_in net a - 1) b)
          (visits_shared (path_in net a) (hop_in net a k).node (visits_place k i) (path_in net b)))
          (cost-shared b k h i))

      pub way_whole : (k : ℕ) → k ≤ length_in net a → way_over net a k ≡ way_to (net_in net) (flow_in net a) k
      unfolding way_over
      way_whole k h =
          sym
          (ap (sum_of _) (path_front net a k h)
          ∙ sum_listed (hop_in net a) _ k
          ∙ sum_to_ext k _ _ (λ j i. ap (λ c. (net_in net).lmin + c) (least-whole j (omega arith))))

      term5-whole : (k : ℕ) → k ≤ length_in net a → term5 (net_in net) (flow_in net a) (take k (path_in net a)) ≡ term5_over net a k
      unfolding term5 term5_over
      term5-whole k h =
          ap (sum_of _) (path_front net a k h) ∙ sum_listed (hop_in net a) _ k ∙ sum_to_ext k _ _ (λ j i. ap (λ c. c - 1) (lower-whole j (omega arith)))

      module _ (p : ℕ) (in_path : p < length_in net a) where
        abbrev P : List Hop
        P = take (p + 1) (path_in net a)

        abbrev s : ℕ
        s = slowest_to net a p

        slowest-cost : slowest P (path_in net a) ≡ (hop_in net a s).cost
        slowest-cost = own_slowest net a (distinct_in net v a here) (p + 1) (omega arith) ∙ rw (add-one p) (slowest-most p)

        slowest-node : slowest_node P (flow_in net a) ≡ (hop_in net a s).node
        unfolding slowest_node
        slowest-node = rw (slowest-cost, path_front net a (p + 1) (omega arith))
            (earliest_at (hop_in net a s).cost (list_to (hop_in net a) (p + 1)) s (omega (arith, length_to (hop_in net a) (p + 1), (slowest-is p).most))
            (ap (λ r. r.cost) (at_to (hop_in net a) (p + 1) s no_hop (omega (arith, (slowest-is p).most))))
            (λ k i. omega (arith, ap (λ r. r.cost) (at_to (hop_in net a) (p + 1) k no_hop (omega (arith, (slowest-is p).most))), (slowest-is p).earlier k i))
            ∙ ap (λ r. r.node) (at_to (hop_in net a) (p + 1) s no_hop (omega (arith, (slowest-is p).most))))

        at-slowest : (k : ℕ) → k < length_in net a → eqb (hop_in net a k).node (slowest_node P (flow_in net a)) ≡ eqb k s
        at-slowest k h =
            ap (eqb (hop_in net a k).node) slowest-node ∙ own_same net a (distinct_in net v a here) k s h (omega (arith, (slowest-is p).most))

        term4-whole : term4 (net_in net) (flow_in net a) P ≡ term4_over net a p s
        unfolding term4 term4_over term4_by
        term4-whole =
            ap (sum_of _) (path_front net a (p + 1) (omega arith))
            ∙ sum_listed (hop_in net a) _ (p + 1)
            ∙ sum_to_ext (p + 1) _ _ (λ k h. ap₂ (λ t c. pick t 0 c) (at-slowest k (omega arith)) (greatest-whole p k (omega arith)))

        pub base_whole : base_over net a p (term5_over net a (p + 1)) ≡ base_of (net_in net) (flow_in net a) P (hop_in net a p).node
        unfolding base_over base_of term6
        base_whole = omega (
          arith,
          term4-whole,
          term5-whole (p + 1) (omega arith),
          slowest-cost,
          own_cost net a (distinct_in net v a here) p in_path,
          ap (λ n. n * (net_in net).lmax) links,
        )
          where
            links : length P - 1 ≡ p
            links = omega (arith, length-take (p + 1) (path_in net a), path_length net a)
