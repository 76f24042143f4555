-- The entries by place as they are worked out: the last shared place, the one that stands first on the other's path, the slowest cost, each with one
-- place more; then the entry. Assumes nothing.
use mathlib.Core.Path.{◌≡◌, refl, sym, ap, ◌∙◌}
use mathlib.Core.Bool.{Bool, true, false}
use mathlib.Core.Logic.{inl, inr}
use mathlib.Core.List.{List}
use Prim.Native.Nat.{ℕ, zero, suc, ◌+◌, ◌≤◌, ◌<◌}
use native.Mathlib.Numerals.{add-one}
use native.Mathlib.Omega.{arith}
use lib.Dec.{ltb, eqb}
use lib.ListN.{get_or, get_or-eq_default}
use borrow.Author.Tests.{ltb-true, ltb-false}
use Rattle.least.specs.Count.{pick}
use Rattle.least.specs.Fold.{max_to}
use Rattle.least.specs.Lists.{First}
use Rattle.least.proofs.Count.{le_or-lt, pick_below, pick_above}
use Rattle.rules.specs.Net.{Hop}
use Rattle.nets.specs.Nets.{length_in, field_in, path_in, flow_in, net_in, no_hop}
use Rattle.nets.proofs.Reading.{path_length}
use Rattle.crossings.specs.Pairs.{place_on, cost_on}
use Rattle.crossings.proofs.Noting.{place_most}
use Rattle.terms.specs.Terms.{smin_to, way_to}
use Rattle.blocks.specs.Sheet.{here_slot, instant_slot, node_slot}
use Rattle.frames.specs.Frames.{entry_from}
use Rattle.entries.specs.Rows.{arrival_at, last_to, near_to, weight_to, higher_at, equal_at, own_to, own_at}

-- a place x of a's path that b passes: f to begin with, then T p
pub record Shared (net : List ℕ) (a b f : ℕ) (T : ℕ → ℕ) (p x : ℕ) : Type 0 where
  pub from : p ≡ f → x ≡ f
  pub is : f < p → x ≡ T p
  pub on : x < length_in net a
  pub passes : place_on net a b x < length_in net b

-- f is the first place that they share
module _ (net : List ℕ) (a b f : ℕ) (first : First (place_on net a b) (length_in net a) (length_in net b) f) where
  pub shared_first : (T : ℕ → ℕ) → f < length_in net a → Shared net a b f T f f
  shared_first T h = record { from = λ e. refl; is = λ i. absurd (omega arith); on = h; passes = first.found h }

  shared-next : (T : ℕ → ℕ) (t : Bool) (p x y : ℕ) → f ≤ p → p < length_in net a → Shared net a b f T p x → y ≡ pick t p x →
      (t ≡ true → place_on net a b p < length_in net b) → y ≡ T (suc p) → Shared net a b f T (p + 1) y
  shared-next T true p x y g h s e i z = record {
    from = λ q. absurd (omega arith);
    is = λ q. z ∙ ap T (sym (add-one p));
    on = omega arith;
    passes = rw e (i refl);
  }
  shared-next T false p x y g h s e i z = record {
    from = λ q. absurd (omega arith);
    is = λ q. z ∙ ap T (sym (add-one p));
    on = omega (arith, s.on);
    passes = rw e s.passes;
  }

  near_none : (k : ℕ) → k ≤ f → near_to net a b k ≡ 0
  unfolding near_to
  near_none zero i = refl
  near_none (suc k) i =
      rw (near_none k (omega arith))
      (sym (pick_above (place_on net a b k) (place_on net a b 0) k 0 (omega (arith, place_most net a b 0, first.before k (omega arith)))))

  near_first : f < length_in net a → f ≡ near_to net a b (suc f)
  unfolding near_to
  near_first h = rw (near_none f (omega arith)) (go f refl)
    where
      go : (k : ℕ) → k ≡ f → f ≡ pick (ltb (place_on net a b f) (place_on net a b 0)) f 0
      go zero q = elim (le_or-lt (place_on net a b 0) (place_on net a b f)) [
        | inl i ↦ sym q ∙ pick_above (place_on net a b f) (place_on net a b 0) f 0 i
        | inr i ↦ pick_below (place_on net a b f) (place_on net a b 0) f 0 i
      ]
      go (suc k) q =
          pick_below (place_on net a b f) (place_on net a b 0) f 0 (omega (arith, first.before 0 (omega arith), first.found h))

  module _ {p x y : ℕ} (g : f ≤ p) (h : p < length_in net a) where
    -- the last
    module _ (s : Shared net a b f (last_to net a b) p x) (e : y ≡ pick (ltb (place_on net a b p) (length_in net b)) p x) where
      last-next : y ≡ last_to net a b (suc p)
      unfolding last_to
      last-next = e ∙ go (ltb (place_on net a b p) (length_in net b)) refl
        where
          go : (t : Bool) → ltb (place_on net a b p) (length_in net b) ≡ t → pick t p x ≡ pick t p (last_to net a b p)
          go true q = refl
          go false q = elim (le_or-lt p f) [
            | inl i ↦
                absurd (omega (
                  arith,
                  ltb-false (place_on net a b p) (length_in net b) q,
                  first.found (omega arith),
                  ap (place_on net a b) {x = f} {y = p} (omega arith),
                ))
            | inr i ↦ s.is i
          ]

      pub last_more : (y ≡ last_to net a b (suc p)) × Shared net a b f (last_to net a b) (p + 1) y
      last_more = (last-next, shared-next (last_to net a b) _ p x y g h s e (ltb-true (place_on net a b p) (length_in net b)) last-next)

    -- the one whose node stands first on b's path
    module _ (s : Shared net a b f (near_to net a b) p x) (e : y ≡ pick (ltb (place_on net a b p) (place_on net a b x)) p x) where
      near_next : y ≡ near_to net a b (suc p)
      unfolding near_to
      near_next = elim (le_or-lt p f) [
        | inl i ↦
            let q : p ≡ f = omega arith in
            e ∙ sym (pick_above (place_on net a b p) (place_on net a b x) p x (omega (arith, ap (place_on net a b) {x = x} {y = p} (s.from q ∙ sym q))))
            ∙ s.from q ∙ near_first (omega arith) ∙ ap (λ k. near_to net a b (suc k)) (sym q)
        | inr i ↦ e ∙ ap (λ z. pick (ltb (place_on net a b p) (place_on net a b z)) p z) (s.is i)
      ]

      pub near_more : (y ≡ near_to net a b (suc p)) × Shared net a b f (near_to net a b) (p + 1) y
      near_more = (
        near_next,
        shared-next (near_to net a b) _ p x y g h s e (λ q. omega (arith, ltb-true (place_on net a b p) (place_on net a b x) q, s.passes)) near_next,
      )

  -- b's cost is 0 before
  pub weight_none : (k : ℕ) → k ≤ f → weight_to net a b k ≡ 0
  unfolding max_to cost_on
  weight_none zero i = refl
  weight_none (suc k) i =
      let z : get_or (path_in net b) (place_on net a b k) no_hop ≡ no_hop =
      get_or-eq_default (path_in net b) no_hop {n = place_on net a b k} (omega (arith, path_length net b, first.before k (omega arith))) in
      omega (arith, weight_none k (omega arith), ap (λ (q : Hop). q.cost) z)

-- the entry at place p
entry_same : {l l' p p' m m' t t' w w' : ℕ} → l ≡ l' → p ≡ p' → m ≡ m' → t ≡ t' → w ≡ w' → entry_from l p m t w ≡ entry_from l' p' m' t' w'
entry_same e f g h i = cc

module _ (net : List ℕ) (a p : ℕ) {t w : ℕ} (period : t ≡ field_in net a 2) (weight : w ≡ own_to net a (p + 1)) where
  pub own_made : entry_from instant_slot 0 t t w ≡ own_at net a p
  unfolding own_at
  own_made = entry_same refl refl period period weight

module _ (net : List ℕ) (a b : ℕ) (r : ℕ → ℕ) (f p : ℕ) {plus way smin t w x : ℕ}
    (plus-is : plus ≡ field_in net b 3 + arrival_at net r b (place_on net a b f))
    (smin-is : smin ≡ smin_to (net_in net) (flow_in net b) (place_on net a b x)) (period : t ≡ field_in net b 2) (weight : w ≡ weight_to net a b (p + 1)) where
  pub higher_made : {look : ℕ} → x ≡ last_to net a b (suc p) → look ≡ pick (eqb x p) here_slot (node_slot x) → way ≡ way_to (net_in net) (flow_in net a) f →
      entry_from look plus (way + smin) t w ≡ higher_at net a b r f p
  unfolding higher_at
  higher_made e l m =
      let s : smin ≡ smin_to (net_in net) (flow_in net b) (place_on net a b (last_to net a b (suc p))) =
      smin-is ∙ ap (λ k. smin_to (net_in net) (flow_in net b) (place_on net a b k)) e in
      entry_same (l ∙ ap (λ k. pick (eqb k p) here_slot (node_slot k)) e) plus-is (omega arith) period weight

  pub equal_made : {j s : ℕ} → x ≡ near_to net a b (suc p) → j ≡ field_in net a 3 → way ≡ way_to (net_in net) (flow_in net a) f → s ≡ arrival_at net r a x →
      entry_from instant_slot (plus + s) (j + way + smin) t w ≡ equal_at net a b r f p
  unfolding equal_at
  equal_made {j} {s} e i m g =
      let u : smin ≡ smin_to (net_in net) (flow_in net b) (place_on net a b (near_to net a b (suc p))) =
      smin-is ∙ ap (λ k. smin_to (net_in net) (flow_in net b) (place_on net a b k)) e in
      let v : s ≡ arrival_at net r a (near_to net a b (suc p)) = g ∙ ap (arrival_at net r a) e in
      entry_same refl (omega arith) (omega arith) period weight
