-- The formula: RULES, paths; RULES, times and counts; RULES, starting time. Naturals only: an instant t ≥ −J is u = t + J, and a count
-- of x = a − b is count a b T; proofs/Whole shows that nothing is lost.
use Rattle.std.specs.Prelude.{Bool, true, false, List, [], ◌∷◌, map, ℕ, ◌+◌, ◌-◌, ◌*◌, max, ltb, eqb, length}
use Rattle.least.specs.Count.{pick, count, ceil}
use Rattle.least.specs.Fold.{sum_of, max_of, min_of, only, any_of, keep}
use Rattle.rules.specs.Net.{Hop, Flow, Net}

-- the horizon H
unfoldable pub horizon : ℕ
horizon = 65535

abbrev pub both : Bool → Bool → Bool
both a b = pick a b false

-- What j is to i. A flow is its own, and so not its equal.
pub data Role : Type 0 where
  Own : Role
  Higher : Role
  Equal : Role
  Lower : Role

unfoldable pub role : Flow → Flow → Role
role i j =
    pick (eqb i.number j.number) Own
    (pick (ltb i.priority j.priority) Higher (pick (eqb i.priority j.priority) Equal Lower))

abbrev pub higher_or_equal : Role → Bool
higher_or_equal Own = false
higher_or_equal Higher = true
higher_or_equal Equal = true
higher_or_equal Lower = false

abbrev pub lower : Role → Bool
lower Own = false
lower Higher = false
lower Equal = false
lower Lower = true

-- Paths. The prefix at h ends with h; before h ends just short of it.
unfoldable pub visits : List Hop → ℕ → Bool
visits l h = any_of (λ k. eqb k.node h) l

unfoldable pub prefix : ℕ → List Hop → List Hop
prefix h [] = []
prefix h (k ∷ ks) = k ∷ pick (eqb k.node h) [] (prefix h ks)

unfoldable pub before : ℕ → List Hop → List Hop
before h [] = []
before h (k ∷ ks) = pick (eqb k.node h) [] (k ∷ before h ks)

unfoldable pub last_node : List Hop → ℕ
last_node [] = 0
last_node (k ∷ []) = k.node
last_node (k ∷ (m ∷ ms)) = last_node (m ∷ ms)

-- the first node of a that b visits, and the last; 0 and h if there is none
unfoldable pub first_on : List Hop → List Hop → ℕ
first_on [] b = 0
first_on (k ∷ a) b = pick (visits b k.node) k.node (first_on a b)

unfoldable pub last_on : ℕ → List Hop → List Hop → ℕ
last_on h [] b = h
last_on h (k ∷ a) b = last_on (pick (visits b k.node) k.node h) a b

-- C at a node: 0 where the path does not pass. The one cost is the least as well. RULES, ranges
abbrev pub least : Hop → ℕ
least k = k.cost

unfoldable pub there : (Hop → ℕ) → List Hop → ℕ → ℕ
there f l h = max_of (only (λ k. eqb k.node h) f) l

abbrev pub cost_at : List Hop → ℕ → ℕ
cost_at l h = there (λ k. k.cost) l h

-- P and the path l have a node in common
unfoldable pub crosses : List Hop → List Hop → Bool
crosses P l = any_of (λ k. visits P k.node) l

-- A flow as i's path meets it: the nodes that they share, in that flow's order. One that does not cross has none, and adds nothing.
pub record Crossing : Type 0 where
  pub flow : Flow
  pub part : List Hop

unfoldable pub crossings : Net → Flow → List Crossing
crossings N i = map (λ j. record { flow = j; part = keep (λ k. visits i.path k.node) j.path }) N.flows

-- Smin(j,h)
unfoldable pub smin : Net → Flow → ℕ → ℕ
smin N j h = sum_of (λ k. least k + N.lmin) (before h j.path)

-- S, of a flow's number and a node
abbrev pub Key : Type 0
Key = ℕ × ℕ

abbrev pub Arrivals : Type 0
Arrivals = Key → ℕ

-- j runs along i on P, a prefix of i's path or the whole
unfoldable pub runs_along : List Hop → Crossing → Bool
runs_along P j = eqb (first_on j.part P) (first_on P j.part)

-- j is higher or equal, and runs along i on P
unfoldable pub along : Flow → List Hop → Crossing → Bool
along i P j = both (higher_or_equal (role i j.flow)) (runs_along P j)

-- M(i,h)
unfoldable pub least_cost : Net → Flow → Hop → ℕ
least_cost N i k =
    min_of (least k)
    (λ j. pick (both (along i i.path j) (visits j.part k.node)) (there least j.part k.node) (least k)) (crossings N i)

unfoldable pub M : Net → Flow → ℕ → ℕ
M N i h = sum_of (λ k. N.lmin + least_cost N i k) (before h i.path)

-- Slowest cost on P; the weight of a packet of j is that of its part; of several slowest nodes the earliest counts.
unfoldable pub slowest : List Hop → List Hop → ℕ
slowest P l = max_of (only (λ k. visits P k.node) (λ k. k.cost)) l

unfoldable pub weight : List Hop → Crossing → ℕ
weight P j = slowest P j.part

unfoldable pub own_weight : List Hop → Flow → ℕ
own_weight P i = slowest P i.path

unfoldable pub earliest : ℕ → List Hop → ℕ
earliest c [] = 0
earliest c (k ∷ ks) = pick (eqb k.cost c) k.node (earliest c ks)

unfoldable pub slowest_node : List Hop → Flow → ℕ
slowest_node P i = earliest (slowest P i.path) P

-- A(i,j) = S(j,f) − M(i,f) + J of j, f where P first meets j's path: what it adds, and what it takes off
unfoldable pub plus_a : Arrivals → List Hop → Crossing → ℕ
plus_a S P j = S (j.flow.number, first_on P j.part) + j.flow.jitter

unfoldable pub less_a : Net → Flow → List Hop → Crossing → ℕ
less_a N i P j = M N i (first_on P j.part)

-- The sum of which W(i,h,t) is the least solution: P is the prefix at h, x gives W at the nodes before h, w is W at h.
module _ (N : Net) (i : Flow) where
  -- 1. packets of a higher flow: count(V − Smin(j,l) + A, T), l where P last meets j's path, V = w if l = h
  unfoldable pub term1 : Arrivals → List Hop → ℕ → (ℕ → ℕ) → ℕ → Crossing → ℕ
  term1 S P h x w j =
      let l = last_on h P j.part in
      count (pick (eqb l h) w (x l) + plus_a S P j) (smin N j.flow l + less_a N i P j) j.flow.period

  -- 2. packets of an equal flow: count(t + S(i,g) − Smin(j,g) + A, T), g where j first meets P
  unfoldable pub term2 : Arrivals → List Hop → ℕ → Crossing → ℕ
  term2 S P u j =
      let g = first_on j.part P in
      count (u + S (i.number, g) + plus_a S P j) (i.jitter + smin N j.flow g + less_a N i P j) j.flow.period

  unfoldable pub packets : Arrivals → List Hop → ℕ → ℕ → (ℕ → ℕ) → ℕ → Crossing → Role → ℕ
  packets S P h u x w j Own = 0
  packets S P h u x w j Higher = term1 S P h x w j
  packets S P h u x w j Equal = term2 S P u j
  packets S P h u x w j Lower = 0

  -- 1 and 2: packets × slowest cost, over the crossing flows
  unfoldable pub others : Arrivals → List Hop → ℕ → ℕ → (ℕ → ℕ) → ℕ → ℕ
  others S P h u x w = sum_of (λ j. packets S P h u x w j (role i j.flow) * weight P j) (crossings N i)

-- 3. i itself
unfoldable pub term3 : Flow → List Hop → ℕ → ℕ
term3 i P u = count u 0 i.period * own_weight P i

module _ (N : Net) (i : Flow) where
  -- 4. the greatest cost at each node but i's slowest
  unfoldable pub greatest_cost : List Hop → Hop → ℕ
  greatest_cost P k = max k.cost (max_of (only (along i P) (λ j. cost_at j.part k.node)) (crossings N i))

  unfoldable pub term4 : List Hop → ℕ
  term4 P = sum_of (λ k. pick (eqb k.node (slowest_node P i)) 0 (greatest_cost P k)) P

  -- 5. the greatest lower cost at each node, less 1
  unfoldable pub lower_cost : Hop → ℕ
  lower_cost k = max_of (only (λ j. lower (role i j.flow)) (λ j. cost_at j.part k.node)) (crossings N i)

  unfoldable pub term5 : List Hop → ℕ
  term5 P = sum_of (λ k. lower_cost k - 1) P

-- 6. without the cost that is taken off
unfoldable pub term6 : Net → List Hop → ℕ
term6 N P = (length P - 1) * N.lmax

unfoldable pub sum : Net → Flow → Arrivals → ℕ → ℕ → (ℕ → ℕ) → ℕ → ℕ
sum N i S u h x w =
    let P = prefix h i.path in
    others N i S P h u x w + term3 i P u + term4 N i P + term5 N i P + term6 N P - cost_at i.path h

-- the sum of which the busy length is the least solution
unfoldable pub load : Net → Flow → ℕ → ℕ
load N i b =
    ceil b i.period * own_weight i.path i
    + sum_of (only (λ j. higher_or_equal (role i j.flow)) (λ j. ceil b j.flow.period * weight i.path j)) (crossings N i)

-- S(j,h) along a path: a at its first node, then Lmax more than R one node back. RULES, arrival bounds
unfoldable pub arriving : ℕ → (ℕ → ℕ) → ℕ → List Hop → ℕ → ℕ
arriving lmax R a [] h = 0
arriving lmax R a (k ∷ ks) h = pick (eqb k.node h) a (arriving lmax R (R k.node + lmax) ks h)

-- The arrival bounds that the response bounds R give: of the flow with that number, at a node of its path; 0 elsewhere.
unfoldable pub arrivals : Net → (Flow → ℕ → ℕ) → Arrivals
arrivals N R k = max_of (only (λ i. eqb i.number k.0) (λ i. arriving N.lmax (R i) 0 i.path k.1)) N.flows

-- what the costs and the least link delays leave of the bound. RULES, response bounds
unfoldable pub jitter_of : Net → Flow → ℕ → ℕ
jitter_of N i bound = bound - (sum_of least i.path + (length i.path - 1) * N.lmin)
