-- Refusals 1 to 4 are given exactly when the rules say so, and what the formula needs of a well-formed flow.
use Prim.Native.Nat.{ℕ, zero, suc, ◌+◌, ◌-◌, ◌<◌, ◌≤◌}
use mathlib.Core.Path.{◌≡◌, refl, sym, ap, ◌∙◌, subst}
use mathlib.Core.Bool.{Bool, true, false, not, ◌&&◌, false≢true}
use mathlib.Core.List.Memᴰ
use mathlib.Core.List.{List, [], ◌∷◌, Memᴰ}
use mathlib.Core.Logic.{⊎_elim}
use native.Mathlib.Omega.{arith}
use lib.ListN.{length, get_or, length-take}
use lib.Seq.{get_or-take, get_or-drop}
use lib.Dec.{leb, ltb, eqb}
use borrow.Author.Tests.{eq-eqb, ne_eqb, eqb-true, eqb-false, le-leb, leb-true, ltb-true, ltb-false, not-true}
use Rattle.std.specs.Prelude.{Err}
use Rattle.rules.specs.Net as net
use Rattle.least.specs.Fold.{any_of}
use Rattle.least.proofs.Count.{never_true}
use Rattle.rules.specs.Formula.{visits}
use Rattle.rules.specs.Valid.{Distinct, InRange}
use Rattle.flows.specs.declared.Flow.{Flow}
use Rattle.flows.specs.declared.Cause.TheVariants.{Delays}
use Rattle.flows.specs.Refusals.{Ruling, accepted}
use Rattle.flows.specs.Lists.{most_nodes, hops_of, path_of, unused_of, flow_of}
use Rattle.flows.specs.Tests.{most_delay, most_cost, delay_cause, every, hop_fits, hop_zero, ranges_fit, distinct, new_to, nodes_of, flow_cause}
use Rattle.flows.specs.WellFormed.{Between, DelaysFit, Ranges, Differ, WellFormed, OfDelays, delays-fit, delays_unfit, OfFlow, number-zero, out_of_range, node-twice, well_formed, Exact, Each, each_none, each_more, Typed}
use Rattle.flows.proofs.Arrays.{nowhere, hop_at_lem, path_short, path_at, path_nodes}
use Rattle.flows.proofs.Causes.{delays_crossed, delays_long, delays_in, cause_number, cause_range, cause_twice, cause_accepted}

both : (a b : Bool) → (a && b) ≡ true → (a ≡ true) × (b ≡ true)
both true b e = (refl, e)
both false b e = absurd (false≢true e)

join : (a b : Bool) → a ≡ true → b ≡ true → (a && b) ≡ true
join a b e h = rw (e, h)

-- ---- given exactly when the rules say so: it is one of those causes, and the only one
pub exact_from : (Of : Ruling → Type 0) (r : Ruling) → Of r → ((c : Ruling) → Of c → c ≡ r) → Exact r Of
exact_from Of r o only c = (λ e. subst Of e o, λ g. sym (only c g))

pub exact_as : (Of : Ruling → Type 0) (r s : Ruling) → r ≡ s → Exact s Of → Exact r Of
exact_as Of r s e x c = (λ q. (x c).0 (sym e ∙ q), λ g. e ∙ (x c).1 g)

-- ---- a test of every element, by places
module _ {A : Type 0} (p : A → Bool) (d : A) where
  every-at : (l : List A) → every p l ≡ true → (k : ℕ) → k < length l → p (get_or l k d) ≡ true
  unfolding every
  every-at [] e k h = absurd (omega arith)
  every-at (x ∷ l) e zero h = (both (p x) (every p l) e).0
  every-at (x ∷ l) e (suc k) h = every-at l (both (p x) (every p l) e).1 k (omega arith)

  every_any : p d ≡ true → (l : List A) → every p l ≡ true → (k : ℕ) → p (get_or l k d) ≡ true
  unfolding every
  every_any g [] e k = g
  every_any g (x ∷ l) e zero = (both (p x) (every p l) e).0
  every_any g (x ∷ l) e (suc k) = every_any g l (both (p x) (every p l) e).1 k

  every_of : (l : List A) → ((k : ℕ) → k < length l → p (get_or l k d) ≡ true) → every p l ≡ true
  unfolding every
  every_of [] g = refl
  every_of (x ∷ l) g = join (p x) (every p l) (g 0 (omega arith)) (every_of l (λ k h. g (suc k) (omega arith)))

distinct_at : (l : List ℕ) → distinct l ≡ true → (a b : ℕ) → a < b → b < length l → get_or l a 0 ≡ get_or l b 0 → ⊥
unfolding distinct
distinct_at [] e a b h i q = omega arith
distinct_at (x ∷ l) e zero zero h i q = omega arith
distinct_at (x ∷ l) e zero (suc b) h i q =
    let n = every-at (λ m. not (eqb m x)) 0 l (both (new_to l x) (distinct l) e).0 b (omega arith) in
    eqb-false (get_or l b 0) x (not-true (eqb (get_or l b 0) x) n) (sym q)
distinct_at (x ∷ l) e (suc a) zero h i q = omega arith
distinct_at (x ∷ l) e (suc a) (suc b) h i q = distinct_at l (both (new_to l x) (distinct l) e).1 a b (omega arith) (omega arith) q

distinct_of : (l : List ℕ) → ((a b : ℕ) → a < b → b < length l → get_or l a 0 ≡ get_or l b 0 → ⊥) → distinct l ≡ true
unfolding distinct
distinct_of [] g = refl
distinct_of (x ∷ l) g =
    join (new_to l x) (distinct l)
    (every_of (λ m. not (eqb m x)) 0 l (λ k h. ap not (ne_eqb (get_or l k 0) x (λ q. g 0 (suc k) (omega arith) (omega arith) (sym q)))))
    (distinct_of l (λ a b h i. g (suc a) (suc b) (omega arith) (omega arith)))

-- ---- the tests of a node and its cost
positive : (n : ℕ) → not (eqb n 0) ≡ true → 1 ≤ n
positive n e = let h = eqb-false n 0 (not-true (eqb n 0) e) in omega arith

not-zero : (n : ℕ) → 1 ≤ n → not (eqb n 0) ≡ true
not-zero n h = ap not (ne_eqb n 0 (λ q. omega arith))

module _ (n c : ℕ) where
  abbrev hop : net.Hop
  hop = record { node = n; cost = c }

  hop_in_lem : hop_fits hop ≡ true → (1 ≤ n) × Between 1 4095 c
  unfolding hop_fits
  hop_in_lem e =
      let a = both _ (leb c most_cost) e in
      let b = both (not (eqb n 0)) (not (eqb c 0)) a.0 in
      (positive n b.0, (positive c b.1, leb-true c most_cost a.1))

  in-hop : 1 ≤ n → Between 1 4095 c → hop_fits hop ≡ true
  unfolding hop_fits
  in-hop h g = join _ (leb c most_cost) (join (not (eqb n 0)) (not (eqb c 0)) (not-zero n h) (not-zero c g.0)) (le-leb c most_cost g.1)

  hop-none : hop_zero hop ≡ true → (n ≡ 0) × (c ≡ 0)
  unfolding hop_zero
  hop-none e = let a = both (eqb n 0) (eqb c 0) e in (eqb-true n 0 a.0, eqb-true c 0 a.1)

  none-hop : n ≡ 0 → c ≡ 0 → hop_zero hop ≡ true
  unfolding hop_zero
  none-hop h g = join (eqb n 0) (eqb c 0) (eq-eqb n 0 h) (eq-eqb c 0 g)

-- ---- refusals 2 to 4
module _ (f : Flow) (t : Typed f) where
  abbrev all : List net.Hop
  all = hops_of f.nodes f.costs

  hop-there : (k : ℕ) → get_or all k nowhere ≡ hop (get_or f.nodes k 0) (get_or f.costs k 0)
  hop-there k = hop_at_lem f.nodes f.costs most_nodes k t.nodes t.costs

  module _ (most : f.length ≤ most_nodes) where
    used-there : (k : ℕ) → k < f.length → get_or (path_of f) k nowhere ≡ hop (get_or f.nodes k 0) (get_or f.costs k 0)
    used-there k h = get_or-take f.length all k nowhere h ∙ hop-there k

    used_in : every hop_fits (path_of f) ≡ true → (k : ℕ) → k < f.length → (1 ≤ get_or f.nodes k 0) × Between 1 4095 (get_or f.costs k 0)
    used_in e k h =
        hop_in_lem _ _ (sym (ap hop_fits (used-there k h)) ∙ every-at hop_fits nowhere (path_of f) e k (omega (arith, path_short f t.nodes t.costs most)))

    in-used : ((k : ℕ) → k < f.length → (1 ≤ get_or f.nodes k 0) × Between 1 4095 (get_or f.costs k 0)) → every hop_fits (path_of f) ≡ true
    in-used g = every_of hop_fits nowhere (path_of f) fit
      where
        fit : (k : ℕ) → k < length (path_of f) → hop_fits (get_or (path_of f) k nowhere) ≡ true
        fit k h =
            let l : k < f.length = omega (arith, path_short f t.nodes t.costs most) in
            ap hop_fits (used-there k l) ∙ in-hop _ _ (g k l).0 (g k l).1

    differ_in : distinct (nodes_of f) ≡ true → Differ f
    differ_in e a b h i q =
        distinct_at (nodes_of f) e a b h (omega (arith, path_nodes f t.nodes t.costs, path_short f t.nodes t.costs most))
        (get_or-take f.length f.nodes a 0 (omega arith) ∙ q ∙ sym (get_or-take f.length f.nodes b 0 i))

    in_differ : Differ f → distinct (nodes_of f) ≡ true
    in_differ g = distinct_of (nodes_of f) apart
      where
        apart : (a b : ℕ) → a < b → b < length (nodes_of f) → get_or (nodes_of f) a 0 ≡ get_or (nodes_of f) b 0 → ⊥
        apart a b h i q =
            let l : b < f.length = omega (arith, length-take f.length f.nodes) in
            g a b h l (sym (get_or-take f.length f.nodes a 0 (omega arith)) ∙ q ∙ get_or-take f.length f.nodes b 0 l)

  unused_in : every hop_zero (unused_of f) ≡ true → (k : ℕ) → f.length ≤ k → (get_or f.nodes k 0 ≡ 0) × (get_or f.costs k 0 ≡ 0)
  unfolding hop_zero
  unused_in e k h =
      let z = every_any hop_zero nowhere refl (unused_of f) e (k - f.length) in
      let i : f.length + (k - f.length) ≡ k = omega arith in
      let q : get_or (unused_of f) (k - f.length) nowhere ≡ hop (get_or f.nodes k 0) (get_or f.costs k 0) =
      get_or-drop f.length all (k - f.length) nowhere ∙ ap (λ (j : ℕ). get_or all j nowhere) i ∙ hop-there k in
      hop-none _ _ (sym (ap hop_zero q) ∙ z)

  in_unused : ((k : ℕ) → f.length ≤ k → (get_or f.nodes k 0 ≡ 0) × (get_or f.costs k 0 ≡ 0)) → every hop_zero (unused_of f) ≡ true
  in_unused g = every_of hop_zero nowhere (unused_of f) none
    where
      none : (k : ℕ) → k < length (unused_of f) → hop_zero (get_or (unused_of f) k nowhere) ≡ true
      none k h =
          let z = g (f.length + k) (omega arith) in
          ap hop_zero (get_or-drop f.length all k nowhere ∙ hop-there (f.length + k)) ∙ none-hop _ _ z.0 z.1

  ranges_in : ranges_fit f ≡ true → Ranges f
  unfolding ranges_fit
  ranges_in e =
      let a = both _ (every hop_zero (unused_of f)) e in
      let b = both _ (every hop_fits (path_of f)) a.0 in
      let c = both _ (leb f.length most_nodes) b.0 in
      let d = both _ (not (eqb f.length 0)) c.0 in
      let g = both (not (eqb f.period 0)) (not (eqb f.deadline 0)) d.0 in
      let most = leb-true f.length most_nodes c.1 in
      record {
        period = (positive f.period g.0, omega (arith, t.period));
        deadline = (positive f.deadline g.1, omega (arith, t.deadline));
        path = (positive f.length d.1, most);
        node = λ k h. ((used_in most b.1 k h).0, omega (arith, t.node k));
        cost = λ k h. (used_in most b.1 k h).1;
        unused = unused_in a.1;
      }

  in_ranges : Ranges f → ranges_fit f ≡ true
  unfolding ranges_fit
  in_ranges r =
      join _ (every hop_zero (unused_of f))
      (join _ (every hop_fits (path_of f))
      (join _ (leb f.length most_nodes)
      (join _ (not (eqb f.length 0))
      (join (not (eqb f.period 0)) (not (eqb f.deadline 0)) (not-zero f.period r.period.0) (not-zero f.deadline r.deadline.0))
      (not-zero f.length r.path.0))
      (le-leb f.length most_nodes r.path.1))
      (in-used r.path.1 (λ k h. ((r.node k h).0, r.cost k h))))
      (in_unused r.unused)

  -- which of them is given
  of-flow : OfFlow f (flow_cause f)
  of-flow = go (eqb f.number 0) (ranges_fit f) (distinct (nodes_of f)) refl refl refl
    where
      go : (a b d : Bool) → eqb f.number 0 ≡ a → ranges_fit f ≡ b → distinct (nodes_of f) ≡ d → OfFlow f (flow_cause f)
      go true b d p q r = let h = eqb-true f.number 0 p in subst (OfFlow f) (cause_number f h) (number-zero h)
      go false false d p q r =
          let h = eqb-false f.number 0 p in
          subst (OfFlow f) (cause_range f h false (sym q) refl) (out_of_range h (λ i. false≢true (sym q ∙ in_ranges i)))
      go false true false p q r =
          let h = eqb-false f.number 0 p in
          let i = ranges_in q in
          subst (OfFlow f) (cause_twice f h true (sym q) refl false (sym r) refl)
          (node-twice h i (λ g. false≢true (sym r ∙ in_differ i.path.1 g)))
      go false true true p q r =
          let h = eqb-false f.number 0 p in
          let i = ranges_in q in
          subst (OfFlow f) (cause_accepted f h true (sym q) refl true (sym r) refl) (well_formed (record {
            number = (omega (arith, h), omega (arith, t.number));
            priority = omega (arith, t.priority);
            jitter = omega (arith, t.jitter);
            ranges = i;
            differ = differ_in i.path.1 r;
          }))

  -- and that it is the only one
  flow-only : (c : Ruling) → OfFlow f c → c ≡ flow_cause f
  flow-only c (number-zero h) = cause_number f h
  flow-only c (out_of_range h n) = cause_range f h (ranges_fit f) refl (ap not (never_true (ranges_fit f) (λ e. n (ranges_in e))))
  flow-only c (node-twice h i n) =
      cause_twice f h (ranges_fit f) refl (ap not (in_ranges i)) (distinct (nodes_of f)) refl
      (ap not (never_true (distinct (nodes_of f)) (λ e. n (differ_in i.path.1 e))))
  flow-only c (well_formed w) =
      cause_accepted f (λ q. omega (arith, w.number.0)) (ranges_fit f) refl (ap not (in_ranges w.ranges)) (distinct (nodes_of f)) refl
      (ap not (in_differ w.ranges.path.1 w.differ))

  -- Refusals 2 to 4: each is given exactly when the rules say so
  pub flow_exact : Exact (flow_cause f) (OfFlow f)
  flow_exact = exact_from (OfFlow f) (flow_cause f) of-flow flow-only

  pub flow_given : (r : Ruling) → r ≡ flow_cause f → Exact r (OfFlow f)
  flow_given r e = exact_as (OfFlow f) r (flow_cause f) e flow_exact

  -- Accepted exactly if well formed
  pub formed : flow_cause f ≡ accepted → WellFormed f
  formed e = go ((flow_exact accepted).0 e)
    where
      go : OfFlow f accepted → WellFormed f
      go (well_formed w) = w

  pub formed_passes : WellFormed f → flow_cause f ≡ accepted
  formed_passes w = (flow_exact accepted).1 (well_formed w)

-- ---- refusal 1
module _ (lmin lmax : ℕ) where
  of-delays : OfDelays lmin lmax (delay_cause lmin lmax)
  of-delays = go (ltb lmax lmin) (ltb most_delay lmax) refl refl
    where
      go : (p q : Bool) → ltb lmax lmin ≡ p → ltb most_delay lmax ≡ q → OfDelays lmin lmax (delay_cause lmin lmax)
      go true q i j =
          let h = ltb-true lmax lmin i in
          subst (OfDelays lmin lmax) (delays_crossed lmin lmax h) (delays_unfit (λ g. omega (arith, h, g.0)))
      go false true i j =
          let h = ltb-true most_delay lmax j in
          subst (OfDelays lmin lmax) (delays_long lmin lmax (ltb-false lmax lmin i) h) (delays_unfit (λ g. omega (arith, h, g.1)))
      go false false i j =
          let h = ltb-false lmax lmin i in
          let g = ltb-false most_delay lmax j in
          subst (OfDelays lmin lmax) (delays_in lmin lmax h g) (delays-fit (h, g))

  delays-only : (c : Ruling) → OfDelays lmin lmax c → c ≡ delay_cause lmin lmax
  delays-only c (delays-fit h) = delays_in lmin lmax h.0 h.1
  delays-only c (delays_unfit n) = go (delay_cause lmin lmax) refl of-delays
    where
      go : (d : Ruling) → delay_cause lmin lmax ≡ d → OfDelays lmin lmax d → Err Delays ≡ delay_cause lmin lmax
      go d e (delays-fit h) = absurd (n h)
      go d e (delays_unfit g) = sym e

  -- Refusal 1 is given exactly when the rules say so
  pub delays_exact : Exact (delay_cause lmin lmax) (OfDelays lmin lmax)
  delays_exact = exact_from (OfDelays lmin lmax) (delay_cause lmin lmax) of-delays delays-only

  pub delays_given : (r : Ruling) → r ≡ delay_cause lmin lmax → Exact r (OfDelays lmin lmax)
  delays_given r e = exact_as (OfDelays lmin lmax) r (delay_cause lmin lmax) e delays_exact

  pub delays_formed : delay_cause lmin lmax ≡ accepted → DelaysFit lmin lmax
  delays_formed e = go ((delays_exact accepted).0 e)
    where
      go : OfDelays lmin lmax accepted → DelaysFit lmin lmax
      go (delays-fit h) = h

  pub delays_passes : DelaysFit lmin lmax → delay_cause lmin lmax ≡ accepted
  delays_passes h = (delays_exact accepted).1 (delays-fit h)

-- ---- what the formula needs
pub each_member : {A : Type 0} (P : A → Type 0) (l : List A) {x : A} → Each P l → Memᴰ x l → P x
each_member P [] e m = absurd (Memᴰ.not-nil m)
each_member P (y ∷ l) {x} (each_more p e) m =
    ⊎_elim (λ (q : x ≡ y). rw q p) (λ (i : Memᴰ x l). each_member P l e i) (Memᴰ.cases_cons m)

module _ {A : Type 0} (P : A → Type 0) where
  each_of : (l : List A) (d : A) → ((k : ℕ) → k < length l → P (get_or l k d)) → Each P l
  each_of [] d g = each_none
  each_of (x ∷ l) d g = each_more (g 0 (omega arith)) (each_of l d (λ k h. g (suc k) (omega arith)))

none_visited : (l : List net.Hop) (n : ℕ) → ((k : ℕ) → k < length l → (get_or l k nowhere).node ≡ n → ⊥) → visits l n ≡ false
unfolding visits any_of
none_visited [] n g = refl
none_visited (x ∷ l) n g = rw (ne_eqb x.node n (g 0 (omega arith))) (none_visited l n (λ k h. g (suc k) (omega arith)))

are-distinct : (l : List net.Hop) → ((a b : ℕ) → a < b → b < length l → (get_or l a nowhere).node ≡ (get_or l b nowhere).node → ⊥) → Distinct l
are-distinct [] g = tt
are-distinct (x ∷ l) g =
    (none_visited l x.node (λ k h q. g 0 (suc k) (omega arith) (omega arith) (sym q)), are-distinct l (λ a b h i. g (suc a) (suc b) (omega arith) (omega arith)))

module _ (f : Flow) (t : Typed f) (w : WellFormed f) where
  abbrev r : Ranges f
  r = w.ranges

  long : f.length ≡ length (path_of f)
  long = path_short f t.nodes t.costs r.path.1

  there : (k : ℕ) → k < length (path_of f) → get_or (path_of f) k nowhere ≡ hop (get_or f.nodes k 0) (get_or f.costs k 0)
  there k h = path_at f t.nodes t.costs k h

  pub formula_range : InRange (flow_of f)
  formula_range = record {
    period = r.period.0;
    nodes = omega (arith, r.path.0, long);
    distinct = are-distinct (path_of f) apart;
    costs = λ k m. each_member (λ (h : net.Hop). 0 < h.cost) (path_of f) (each_of _ (path_of f) nowhere cost) m;
  }
    where
      apart : (a b : ℕ) → a < b → b < length (path_of f) → (get_or (path_of f) a nowhere).node ≡ (get_or (path_of f) b nowhere).node → ⊥
      apart a b h i q =
          let e : get_or f.nodes a 0 ≡ get_or f.nodes b 0 =
          sym (ap (λ (x : net.Hop). x.node) (there a (omega arith))) ∙ q ∙ ap (λ (x : net.Hop). x.node) (there b i) in
          w.differ a b h (omega (arith, long)) e

      cost : (k : ℕ) → k < length (path_of f) → 0 < (get_or (path_of f) k nowhere).cost
      cost k h = rw (there k h) (r.cost k (omega (arith, long))).0
