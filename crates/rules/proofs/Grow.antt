-- How the sum grows: with the arrival bounds, with the instant, with the starting times, and with the set. Assumes nothing.
use mathlib.Core.Path.{◌≡◌, refl, ap}
use mathlib.Core.Bool.{Bool, true, false}
use mathlib.Core.Logic.{inl, inr}
use mathlib.Core.List.{List, [], ◌∷◌, map, Memᴰ, Sublistᴰ}
use Prim.Native.Nat.{ℕ, ◌+◌, ◌-◌, ◌*◌, ◌≤◌, ◌<◌}
use native.Mathlib.Omega.{arith}
use native.Mathlib.Nat.{le_refl, le_trans, mul-le-mul_right, mul-le-mul_left}
use lib.Dec.{eqb}
use lib.ListN.{length}
use borrow.Author.Tests.{eq-eqb}
use Rattle.least.specs.Count.{pick, count, ceil}
use Rattle.least.specs.Fold.{sum_of, only, keep}
use Rattle.least.specs.Vector.{◌⊑◌}
use Rattle.least.proofs.Count.{pick-le, count_grows}
use Rattle.least.proofs.Fold.{sum_le, sum_add, sum_sublist, max_le, max_sublist, min_sublist, only_le, sublist-map}
use Rattle.rules.specs.Net.{Hop, Flow, Net}
use Rattle.rules.specs.Formula.{Role, Own, Higher, Equal, Lower, role, higher_or_equal, visits, prefix, before, first_on, last_on, cost_at, Crossing, crossings, smin, Arrivals, along, least_cost, M, slowest, weight, own_weight, slowest_node, plus_a, less_a, term1, term2, packets, others, term3, greatest_cost, term4, lower_cost, term5, term6, sum, load}
use Rattle.rules.proofs.Path.{prefix-visits, last-cases}

-- A part of a set: some of its flows, and links at least as slow at best and at most as slow at worst.
pub record Part (N N' : Net) : Type 0 where
  pub lmin : N'.lmin ≤ N.lmin
  pub lmax : N.lmax ≤ N'.lmax
  pub flows : Sublistᴰ N.flows N'.flows

sublist_refl : {A : Type 0} (l : List A) → Sublistᴰ l l
sublist_refl [] = Sublistᴰ.slnil
sublist_refl (x ∷ l) = Sublistᴰ.cons-cons refl (sublist_refl l)

pub part_refl : (N : Net) → Part N N
part_refl N = record { lmin = le_refl _; lmax = le_refl _; flows = sublist_refl N.flows }

-- a crossing flow is a flow of the set
pub crossing-flow : (N : Net) (i : Flow) {j : Crossing} → Memᴰ j (crossings N i) → Memᴰ j.flow N.flows
unfolding crossings
crossing-flow N i {j} m = go N.flows m
  where
    go : (l : List Flow) → Memᴰ j (map (λ j. record { flow = j; part = keep (λ k. visits i.path k.node) j.path }) l) → Memᴰ j.flow l
    go [] x' = elim x' [ ]
    go (f ∷ l) (Memᴰ.head e) = Memᴰ.head (ap (λ q. q.flow) e)
    go (f ∷ l) (Memᴰ.tail m) = Memᴰ.tail (go l m)

-- a prefix's slowest cost is at most the path's
pub slowest-prefix : (h : ℕ) (p l : List Hop) → slowest (prefix h p) l ≤ slowest p l
unfolding slowest
slowest-prefix h p l =
    max_le _ _ l
    (λ k m. only_le (λ k. visits (prefix h p) k.node) (λ k. visits p k.node) (λ k. k.cost) (λ k. k.cost) k (prefix-visits h k.node p) (le_refl _))

scaled : (a b c : ℕ) {s s' : ℕ} → s ≤ s' → a ≤ b + c → a * s ≤ b * s + c * s'
scaled a b c {s} {s'} d h = omega (arith, mul-le-mul_right s h, mul-le-mul_left c d)

-- what the other flows bring to the busy length
unfoldable pub others_load : Net → Flow → ℕ → ℕ
others_load N i b =
    sum_of (only (λ j. higher_or_equal (role i j.flow)) (λ j. ceil b j.flow.period * weight i.path j)) (crossings N i)

pub load_is : (N : Net) (i : Flow) (b : ℕ) → load N i b ≡ ceil b i.period * own_weight i.path i + others_load N i b
unfolding load others_load
load_is N i b = refl

module _ (N N' : Net) (i : Flow) (part : Part N N') (periods : (j : Flow) → Memᴰ j N.flows → 0 < j.period) where
  crossings-part : Sublistᴰ (crossings N i) (crossings N' i)
  unfolding crossings
  crossings-part = sublist-map _ part.flows

  smin-part : (j : Flow) (h : ℕ) → smin N' j h ≤ smin N j h
  unfolding smin
  smin-part j h = sum_le _ _ (before h j.path) (λ k m. omega (arith, part.lmin))

  least-part : (k : Hop) → least_cost N' i k ≤ least_cost N i k
  unfolding least_cost
  least-part k = min_sublist _ _ crossings-part

  M-part : (h : ℕ) → M N' i h ≤ M N i h
  unfolding M
  M-part h = sum_le _ _ (before h i.path) (λ k m. omega (arith, part.lmin, least-part k))

  greatest-part : (P : List Hop) (k : Hop) → greatest_cost N i P k ≤ greatest_cost N' i P k
  unfolding greatest_cost
  greatest-part P k = omega (arith, max_sublist (only (along i P) (λ j. cost_at j.part k.node)) crossings-part)

  term4-part : (P : List Hop) → term4 N i P ≤ term4 N' i P
  unfolding term4
  term4-part P = sum_le _ _ P (λ k m. pick-le (eqb k.node (slowest_node P i)) (le_refl 0) (greatest-part P k))

  lower-part : (k : Hop) → lower_cost N i k - 1 ≤ lower_cost N' i k - 1
  unfolding lower_cost
  lower-part k = less_one (max_sublist _ crossings-part)
    where
      less_one : {a b : ℕ} → a ≤ b → a - 1 ≤ b - 1
      less_one h = omega arith

  term5-part : (P : List Hop) → term5 N i P ≤ term5 N' i P
  unfolding term5
  term5-part P = sum_le _ _ P (λ k m. lower-part k)

  term6-part : (P : List Hop) → term6 N P ≤ term6 N' P
  unfolding term6
  term6-part P = mul-le-mul_left (length P - 1) part.lmax

  pub load_part : (b : ℕ) → load N i b ≤ load N' i b
  unfolding load
  load_part b = omega (
    arith,
    sum_sublist (only (λ j. higher_or_equal (role i j.flow)) (λ j. ceil b j.flow.period * weight i.path j)) crossings-part,
  )

  -- one comparison: arrival bounds no smaller in S'; instants, and starting times before h and at h, at most c greater in the part
  module _ (S S' : Arrivals) (hS : S ⊑ S') (c h : ℕ) (u u' : ℕ) (hu : u ≤ u' + c)
      (x x' : ℕ → ℕ) (hx : (l : ℕ) → visits (before h i.path) l ≡ true → x l ≤ x' l + c) (w w' : ℕ) (hw : w ≤ w' + c) where
    abbrev P : List Hop
    P = prefix h i.path

    at_last : (j : Crossing) → let l = last_on h P j.part in pick (eqb l h) w (x l) ≤ pick (eqb l h) w' (x' l) + c
    at_last j = elim (last-cases h i.path j.part) [
      | inl e ↦ rw (eq-eqb (last_on h P j.part) h e) hw
      | inr v ↦ go (eqb (last_on h P j.part) h) v
    ]
      where
        go : (b : Bool) → visits (before h i.path) (last_on h P j.part) ≡ true →
            pick b w (x (last_on h P j.part)) ≤ pick b w' (x' (last_on h P j.part)) + c
        go true v = hw
        go false v = hx (last_on h P j.part) v

    plus-le : (j : Crossing) → plus_a S P j ≤ plus_a S' P j
    unfolding plus_a
    plus-le j = omega (arith, hS (j.flow.number, first_on P j.part))

    less-le : (j : Crossing) → less_a N' i P j ≤ less_a N i P j
    unfolding less_a
    less-le j = M-part (first_on P j.part)

    packets_grow : (j : Crossing) → 0 < j.flow.period → (r : Role) →
        packets N i S P h u x w j r * weight P j
        ≤ packets N' i S' P h u' x' w' j r * weight P j + pick (higher_or_equal r) (ceil c j.flow.period * weight i.path j) 0
    unfolding packets term1 term2 weight
    packets_grow j p Own = omega arith
    packets_grow j p Higher =
        scaled _ _ _ (slowest-prefix h i.path j.part)
        (count_grows _ _ _ _ c _ p (omega (arith, at_last j, plus-le j, less-le j, smin-part j.flow (last_on h P j.part))))
    packets_grow j p Equal =
        scaled _ _ _ (slowest-prefix h i.path j.part)
        (count_grows _ _ _ _ c _ p
        (omega (arith, hS (i.number, first_on j.part P), plus-le j, less-le j, smin-part j.flow (first_on j.part P))))
    packets_grow j p Lower = omega arith

    others_grow : others N i S P h u x w ≤ others N' i S' P h u' x' w' + others_load N i c
    unfolding others others_load
    others_grow =
        le_trans
        (sum_le _ _ (crossings N i) (λ j m. packets_grow j (periods j.flow (crossing-flow N i m)) (role i j.flow)))
        (omega (
          arith,
          sum_add (λ j. packets N' i S' P h u' x' w' j (role i j.flow) * weight P j)
              (only (λ j. higher_or_equal (role i j.flow)) (λ j. ceil c j.flow.period * weight i.path j)) (crossings N i),
          sum_sublist (λ j. packets N' i S' P h u' x' w' j (role i j.flow) * weight P j) crossings-part,
        ))

    term3_grow : 0 < i.period → term3 i P u ≤ term3 i P u' + ceil c i.period * own_weight i.path i
    unfolding term3 own_weight
    term3_grow p = scaled _ _ _ (slowest-prefix h i.path i.path) (count_grows u 0 u' 0 c i.period p (omega arith))

    pub sum_grows : 0 < i.period → sum N i S u h x w ≤ sum N' i S' u' h x' w' + load N i c
    unfolding sum
    sum_grows p = omega (arith, others_grow, term3_grow p, term4-part P, term5-part P, term6-part P, load_is N i c)

    -- where the instant stays, the flow itself brings nothing
    pub sum_grows_slower : u ≡ u' → sum N i S u h x w ≤ sum N' i S' u' h x' w' + others_load N i c
    unfolding sum term3
    sum_grows_slower e =
        omega (arith, others_grow, ap (λ v. count v 0 i.period * own_weight P i) e, term4-part P, term5-part P, term6-part P)
