-- The entries of a flow at a node add up to the rules' terms 1 and 2, and i's packets after its first. Assumes nothing.
use mathlib.Core.Path.{◌≡◌, refl, sym, ap, ap₂, ◌∙◌, subst}
use mathlib.Core.Bool.{Bool, true, false, not}
use mathlib.Core.Logic.{inl, inr}
use mathlib.Core.List.{List, [], ◌∷◌, Memᴰ}
use Prim.Native.Nat.{ℕ, zero, suc, ◌+◌, ◌*◌, ◌≤◌, ◌<◌}
use native.Mathlib.Omega.{arith}
use native.Mathlib.Nat.{add-zero, mul-zero, le_refl}
use lib.Dec.{eqb}
use lib.ListN.{length}
use borrow.Author.Tests.{ne_eqb}
use Rattle.least.specs.Count.{pick, count}
use Rattle.least.specs.Fold.{sum_to, sum_of, any_of}
use Rattle.least.proofs.Count.{le_or-lt}
use Rattle.least.proofs.Fold.{false_true, sum_append, sum-map, sum_to-add, sum_to_ext, sum_to-one, sum_to_list, any_at, any_found}
use Rattle.rules.specs.Net.{Hop, Flow, Net}
use Rattle.rules.specs.Formula.{Role, Own, Higher, Equal, Lower, both, role, lower, visits, prefix, first_on, last_on, crosses, Crossing, smin, Arrivals, M, slowest, weight, own_weight, plus_a, less_a, term1, term2, packets, others, crossings, arrivals}
use Rattle.rules.specs.Valid.{Valid}
use Rattle.rules.proofs.Path.{prefix-visits, visits_here, visits-there, visits_member, visits-hop}
use Rattle.rules.proofs.Shared.{shared, slowest_shared, first_of_shared, first_on_shared, last_on_shared, uncrossed_nothing}
use Rattle.nets.specs.Nets.{no_flow, flow_at, position_of}
use Rattle.nets.proofs.Sets.{flow_here_lem, one_place, one-flow, own-role, own_number}
use Rattle.blocks.specs.Sheet.{here_slot, instant_slot, node_slot, seen}
use Rattle.frames.specs.Frames.{Entry}
use Rattle.entries.specs.Fields.{term_by, arrival_by, entry_of, counted, entries_to, responses_in}
use Rattle.entries.proofs.Places.{arrival_is}

-- flows that meet: the first node of one on the other is on both
pub first_visited : (a b : List Hop) → crosses b a ≡ true → (visits a (first_on a b) ≡ true) × (visits b (first_on a b) ≡ true)
unfolding crosses first_on any_of
first_visited [] b e = false_true e
first_visited (k ∷ a) b e = go (visits b k.node) refl e (first_visited a b)
  where
    go : (t : Bool) → visits b k.node ≡ t → pick t true (any_of (λ k. visits b k.node) a) ≡ true →
        (any_of (λ k. visits b k.node) a ≡ true → (visits a (first_on a b) ≡ true) × (visits b (first_on a b) ≡ true)) →
        (visits (k ∷ a) (pick t k.node (first_on a b)) ≡ true) × (visits b (pick t k.node (first_on a b)) ≡ true)
    go true q e ih = (visits_here k a, q)
    go false q e ih = (visits-there k a (first_on a b) (ih e).0, (ih e).1)

pub crosses_back : (a b : List Hop) → crosses b a ≡ true → crosses a b ≡ true
unfolding crosses
crosses_back a b e =
    let r = any_found (λ k. visits b k.node) a e in
    let q = visits-hop b r.0.node r.2 in
    any_at (λ k. visits a k.node) q.1 (subst (λ n. visits a n ≡ true) (sym q.2) (visits_member r.1))

-- a flow that adds something meets the prefix
pub meets : (P l : List Hop) → 0 < slowest P l → crosses P l ≡ true
meets P l h = go (crosses P l) refl
  where
    go : (b : Bool) → crosses P l ≡ b → crosses P l ≡ true
    go true e = e
    go false e = absurd (omega (arith, uncrossed_nothing P l e))

abbrev pub is_own : Role → Bool
is_own Own = true
is_own Higher = false
is_own Equal = false
is_own Lower = false

no-weight : (v : ℕ → ℕ) (x : Entry) → x.weight ≡ 0 → term_by v x ≡ 0
unfolding term_by
no-weight v x e = rw e (mul-zero (count (v x.look + x.plus) x.less x.period))

module _ (N : Net) (val : Valid N) (w : ℕ) (r : ℕ → ℕ) (a : ℕ) (here : a < length N.flows) (h : ℕ) where
  abbrev i : Flow
  i = flow_at N a

  abbrev P : List Hop
  P = prefix h i.path

  abbrev S : Arrivals
  S = arrivals N (responses_in N w r)

  within : (n : ℕ) → visits P n ≡ true → visits i.path n ≡ true
  within n e = prefix-visits h n i.path e

  on-path : (k : Hop) → Memᴰ k P → visits i.path k.node ≡ true
  on-path k m = within k.node (visits_member m)

  module _ (b : ℕ) (there : b < length N.flows) where
    abbrev j : Flow
    j = flow_at N b

    abbrev crossing : Crossing
    crossing = record { flow = j; part = shared i.path j.path }

    abbrev entry : Role → Entry
    entry = entry_of N w r a P h b

    own-flow : role i j ≡ Own → i ≡ j
    own-flow q = one-flow N.flows val.rising i j (flow_here_lem N a here) (flow_here_lem N b there) (own_number i j q)

    f-same : first_on P crossing.part ≡ first_on P j.path
    f-same = first_on_shared i.path P j.path on-path

    g-same : first_on crossing.part P ≡ first_on j.path P
    g-same = first_of_shared i.path P within j.path

    l-same : last_on h P crossing.part ≡ last_on h P j.path
    l-same = last_on_shared i.path P j.path h on-path

    weight-same : weight P crossing ≡ slowest P j.path
    unfolding weight
    weight-same = slowest_shared i.path P within j.path

    -- A(i,j), where j crosses
    plus-is : 0 < slowest P j.path → plus_a S P crossing ≡ arrival_by N w r b (first_on P j.path) j.path + j.jitter
    unfolding plus_a
    plus-is q =
        let vis = (first_visited P j.path (crosses_back j.path P (meets P j.path q))).1 in
        ap (λ n. S (j.number, n) + j.jitter) f-same ∙ ap (λ s. s + j.jitter) (arrival_is N val w r b there (first_on P j.path) vis)

    less-is : less_a N i P crossing ≡ M N i (first_on P j.path)
    unfolding less_a
    less-is = ap (M N i) f-same

    own_is : 0 < slowest P j.path → S (i.number, first_on crossing.part P) ≡ arrival_by N w r a (first_on j.path P) i.path
    own_is q =
        let vis = within _ (first_visited j.path P (meets P j.path q)).1 in
        ap (λ n. S (i.number, n)) g-same ∙ arrival_is N val w r a here (first_on j.path P) vis

    -- a flow that has no entry would add nothing by it
    left_out : (ρ : Role) → role i j ≡ ρ → both (not (lower ρ)) (crosses P j.path) ≡ false → (entry ρ).weight ≡ 0
    unfolding entry_of
    left_out Own q e = ap (λ f. slowest P f.path) (own-flow q) ∙ uncrossed_nothing P j.path e
    left_out Higher q e = uncrossed_nothing P j.path e
    left_out Equal q e = uncrossed_nothing P j.path e
    left_out Lower q e = refl

    entry_alone : (v : ℕ → ℕ) → sum_of (term_by v) (pick (counted N w r a P h b) (entry (role i j) ∷ []) []) ≡ term_by v (entry (role i j))
    unfolding counted sum_of
    entry_alone v = go (counted N w r a P h b) refl
      where
        go : (t : Bool) → counted N w r a P h b ≡ t → sum_of (term_by v) (pick t (entry (role i j) ∷ []) []) ≡ term_by v (entry (role i j))
        go true e = omega arith
        go false e = sym (no-weight v (entry (role i j)) (left_out (role i j) refl e))

    -- two counts times the weight, which agree unless that is 0
    same_count : (m m' n n' : ℕ) → (0 < slowest P j.path → m ≡ m') → n ≡ n' →
        count m n j.period * slowest P j.path ≡ count m' n' j.period * weight P crossing + 0
    same_count m m' n n' gains losses = elim (le_or-lt (slowest P j.path) 0) [
      | inl z ↦
          let e : slowest P j.path ≡ 0 = omega arith in
          omega (arith, ap (λ q. count m n j.period * q) e, ap (λ q. count m' n' j.period * q) (weight-same ∙ e))
      | inr z ↦ omega (arith, ap₂ (λ q t. count q t j.period * slowest P j.path) (gains z) losses, ap (λ q. count m' n' j.period * q) weight-same)
    ]

    module _ (x : ℕ → ℕ) (s u : ℕ) where
      -- the slot of W at the last node shared
      higher-slot : seen x s u (entry Higher).look ≡ pick (eqb (last_on h P crossing.part) h) s (x (position_of (last_on h P crossing.part) i.path))
      unfolding entry_of
      higher-slot = ap (λ l. seen x s u (pick (eqb l h) here_slot (node_slot (position_of l i.path)))) (sym l-same) ∙ go (eqb l h)
        where
          l : ℕ
          l = last_on h P crossing.part

          slot : (n : ℕ) → seen x s u (node_slot n) ≡ x n
          slot n = rw (ne_eqb (node_slot n) here_slot (λ z. omega arith), ne_eqb (node_slot n) instant_slot (λ z. omega arith)) (ap x (omega arith))

          go : (t : Bool) → seen x s u (pick t here_slot (node_slot (position_of l i.path))) ≡ pick t s (x (position_of l i.path))
          go true = refl
          go false = slot (position_of l i.path)

      -- the entry of a flow by its role; i itself brings what comes after its first packet
      entry-role : (ρ : Role) →
          term_by (seen x s u) (entry ρ)
          ≡ packets N i S P h u (λ l. x (position_of l i.path)) s crossing ρ * weight P crossing + pick (is_own ρ) (count u i.period i.period * own_weight P i) 0
      unfolding term_by packets term1 term2 own_weight entry_of
      entry-role Own = omega (arith, ap (λ t. count t i.period i.period * slowest P i.path) (add-zero u))
      entry-role Higher = same_count _ _ _ _ (λ t. omega (arith, higher-slot, plus-is t)) (omega (arith, ap (smin N j) l-same, less-is))
      entry-role Equal = same_count _ _ _ _ (λ t. omega (arith, own_is t, plus-is t)) (omega (arith, ap (smin N j) g-same, less-is))
      entry-role Lower = omega arith

  -- one entry a flow, left out or not
  entries-each : (v : ℕ → ℕ) (n : ℕ) → n ≤ length N.flows →
      sum_of (term_by v) (entries_to N w r a P h n) ≡ sum_to n (λ b. term_by v (entry_of N w r a P h b (role i (flow_at N b))))
  unfolding entries_to sum_of sum_to
  entries-each v zero l = refl
  entries-each v (suc n) l =
      sum_append (term_by v) (entries_to N w r a P h n) _ ∙ ap₂ (λ m n. m + n) (entries-each v n (omega arith)) (entry_alone n (omega arith) v)

  -- over all flows: terms 1 and 2, and i's packets after its first
  module _ (x : ℕ → ℕ) (s u : ℕ) where
    abbrev after : ℕ
    after = count u i.period i.period * own_weight P i

    one : Flow → ℕ
    one j =
        packets N i S P h u (λ l. x (position_of l i.path)) s (record { flow = j; part = shared i.path j.path }) (role i j)
        * weight P (record { flow = j; part = shared i.path j.path })

    others_are : others N i S P h u (λ l. x (position_of l i.path)) s ≡ sum_of one N.flows
    unfolding others crossings one
    others_are = sum-map _ _ N.flows

    own-once : sum_to (length N.flows) (λ b. pick (is_own (role i (flow_at N b))) after 0) ≡ after
    own-once = sum_to-one (length N.flows) a _ here not_own ∙ rw (own-role i i refl)
      where
        not_own : (b : ℕ) → b < length N.flows → (b ≡ a → ⊥) → pick (is_own (role i (flow_at N b))) after 0 ≡ 0
        not_own b l ne = go (role i (flow_at N b)) refl
          where
            go : (ρ : Role) → role i (flow_at N b) ≡ ρ → pick (is_own ρ) after 0 ≡ 0
            go Own q = absurd (ne (one_place N.flows val.rising b a l here (sym (own_number i (flow_at N b) q))))
            go Higher q = refl
            go Equal q = refl
            go Lower q = refl

    pub entries_sum : sum_of (term_by (seen x s u)) (entries_to N w r a P h (length N.flows)) ≡ others N i S P h u (λ l. x (position_of l i.path)) s + after
    unfolding one
    entries_sum =
        entries-each (seen x s u) (length N.flows) (le_refl _)
        ∙ sum_to_ext (length N.flows) _ (λ b. one (flow_at N b) + pick (is_own (role i (flow_at N b))) after 0)
        (λ b l. entry-role b l x s u (role i (flow_at N b)))
        ∙ sum_to-add (length N.flows) (λ b. one (flow_at N b)) (λ b. pick (is_own (role i (flow_at N b))) after 0)
        ∙ ap₂ (λ m n. m + n) (sum_to_list one N.flows no_flow ∙ sym others_are) own-once
