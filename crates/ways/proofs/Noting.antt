-- Numbers written place by place: those of other places stay. Assumes nothing.
use mathlib.Core.Path.{◌≡◌, sym, ap, subst, ◌∙◌}
use mathlib.Core.Logic.{inl, inr}
use mathlib.Core.List.{List}
use Prim.Native.Nat.{ℕ, ◌+◌, ◌-◌, ◌≤◌, ◌<◌}
use native.Mathlib.Nat.{mul-le-mul_right}
use native.Mathlib.Omega.{arith}
use lib.ListN.{length, set, length-set}
use lib.Seq.{get_or-set_same, get_or-set_other}
use Rattle.least.specs.Lists.{values, Ahead}
use Rattle.least.proofs.Count.{le_or-lt}
use Rattle.least.proofs.Ranges.{sum_to_more}
use Rattle.least.proofs.Stores.{ahead_none, ahead_set, ahead_then}
use Rattle.rules.specs.Valid.{Valid}
use Rattle.nets.specs.Nets.{count_in, room_in, length_in, hop_in, net_in}
use Rattle.ways.specs.Ways.{way_at, WayFits, WayIs, PlacesAre}
use Rattle.terms.specs.Whole.{least_over, lower_over, smin_over, way_over, term5_over, base_over}
use Rattle.terms.proofs.Whole.{smin_whole, way_whole, base_whole}

-- three numbers written from a place on
module _ (l : List ℕ) (at x y z : ℕ) where
  abbrev pub wrote : List ℕ
  wrote = set (set (set l at x) (at + 1) y) (at + 2) z

  wrote_ahead : Ahead at l wrote
  wrote_ahead =
      ahead_set at l _ (ahead_set at l _ (ahead_set at l l (ahead_none at l) at x (omega arith)) (at + 1) y (omega arith)) (at + 2) z (omega arith)

  module _ (room : at + 2 < length l) where
    wrote-first : values wrote at ≡ x
    wrote-first =
        get_or-set_other (set (set l at x) (at + 1) y) (at + 2) at z 0 (λ e. omega arith)
        ∙ get_or-set_other (set l at x) (at + 1) at y 0 (λ e. omega arith)
        ∙ get_or-set_same l at x 0 (omega arith)

    wrote-second : values wrote (at + 1) ≡ y
    wrote-second =
        get_or-set_other (set (set l at x) (at + 1) y) (at + 2) (at + 1) z 0 (λ e. omega arith)
        ∙ get_or-set_same (set l at x) (at + 1) y 0 (omega (arith, length-set l at x))

    wrote-third : values wrote (at + 2) ≡ z
    wrote-third = get_or-set_same (set (set l at x) (at + 1) y) (at + 2) z 0 (omega (arith, length-set (set l at x) (at + 1) y, length-set l at x))

-- the numbers before a place stay
module _ (at : ℕ) (net l l' : List ℕ) (ahead : Ahead at l l') (a k : ℕ) (h : way_at net a k + 2 < at) where
  fits_kept : WayFits net l a k → WayFits net l' a k
  fits_kept f = record {
    smin = omega (arith, f.smin, ahead.before (way_at net a k) (omega arith));
    way = omega (arith, f.way, ahead.before (way_at net a k + 1) (omega arith));
    base = omega (arith, f.base, ahead.before (way_at net a k + 2) h);
  }

  is-kept : WayIs net l a k → WayIs net l' a k
  is-kept f = record {
    smin = ahead.before (way_at net a k) (omega arith) ∙ f.smin;
    way = ahead.before (way_at net a k + 1) (omega arith) ∙ f.way;
    base = ahead.before (way_at net a k + 2) h ∙ f.base;
  }

module _ (net : List ℕ) where
  -- where the next flow's places begin
  flow-after : (a b k : ℕ) → a < b → k < length_in net a → way_at net a k + 2 < way_at net b 0
  flow-after a b k h i = omega (arith, mul-le-mul_right (room_in net) h)

  -- one place of a's path more
  pub record Going (l₀ l : List ℕ) (a k : ℕ) : Type 0 where
    pub places : PlacesAre net l a k
    pub ahead : Ahead (way_at net a 0) l₀ l

  pub going_start : (l : List ℕ) (a : ℕ) → Going l l a 0
  going_start l a = record {
    places = record { fit = λ k h. absurd (omega arith); is = λ v k h. absurd (omega arith) };
    ahead = ahead_none _ l;
  }

  -- the sums, with one place more
  module _ (a k : ℕ) where
    pub smin_more : smin_over net a (k + 1) ≡ smin_over net a k + ((hop_in net a k).cost + values net 2)
    unfolding smin_over
    smin_more = sum_to_more _ k

    pub way_more : way_over net a (k + 1) ≡ way_over net a k + (values net 2 + least_over net a k)
    unfolding way_over
    way_more = sum_to_more _ k

    pub term5_more : term5_over net a (k + 1) ≡ term5_over net a k + (lower_over net a k - 1)
    unfolding term5_over
    term5_more = sum_to_more _ k

  module _ (l₀ l : List ℕ) (a k : ℕ) (here : a < count_in net) (in_path : k < length_in net a) (going : Going l₀ l a k)
      (at : ℕ) (e : at ≡ way_at net a k) (room : at + 2 < length l)
      (x : ℕ) (x-is : x ≡ smin_over net a k) (x_Fits : x ≤ 8257410)
      (y : ℕ) (y-is : y ≡ way_over net a k) (y-fits : y ≤ 8257410)
      (t : ℕ) (t-is : t ≡ term5_over net a (k + 1)) (z : ℕ) (z-is : z ≡ base_over net a k t) (z-fits : z ≤ 12386115) where
    abbrev l' : List ℕ
    l' = wrote l at x y z

    first : values l' (way_at net a k) ≡ x
    first = ap (values l') (sym e) ∙ wrote-first l at x y z room

    second : values l' (way_at net a k + 1) ≡ y
    second = ap (λ n. values l' (n + 1)) (sym e) ∙ wrote-second l at x y z room

    third : values l' (way_at net a k + 2) ≡ z
    third = ap (λ n. values l' (n + 2)) (sym e) ∙ wrote-third l at x y z room

    fits-here : WayFits net l' a k
    fits-here = record { smin = omega (arith, first); way = omega (arith, second); base = omega (arith, third) }

    is-here : Valid (net_in net) → WayIs net l' a k
    is-here v = record {
      smin = first ∙ x-is ∙ smin_whole net a k (omega arith);
      way = second ∙ y-is ∙ way_whole net a v here k (omega arith);
      base = third ∙ z-is ∙ ap (base_over net a k) t-is ∙ base_whole net a v here k in_path;
    }

    pub going_more : Going l₀ l' a (k + 1)
    going_more = record {
      places = record { fit = fit; is = is };
      ahead = ahead_then _ l₀ l going.ahead l' at (omega arith) (wrote_ahead l at x y z);
    }
      where
        fit : (j : ℕ) → j < k + 1 → WayFits net l' a j
        fit j h = elim (le_or-lt k j) [
          | inl q ↦ subst (WayFits net l' a) (let s : k ≡ j = omega arith in s) fits-here
          | inr q ↦ fits_kept at net l l' (wrote_ahead l at x y z) a j (omega arith) (going.places.fit j q)
        ]

        is : Valid (net_in net) → (j : ℕ) → j < k + 1 → WayIs net l' a j
        is v j h = elim (le_or-lt k j) [
          | inl q ↦ subst (WayIs net l' a) (let s : k ≡ j = omega arith in s) (is-here v)
          | inr q ↦ is-kept at net l l' (wrote_ahead l at x y z) a j (omega arith) (going.places.is v j q)
        ]

  -- one flow more
  module _ (l l' : List ℕ) (a : ℕ) where
    pub flow_more : ((b : ℕ) → b < a → PlacesAre net l b (length_in net b)) → PlacesAre net l' a (length_in net a) → Ahead (way_at net a 0) l l' →
        (b : ℕ) → b < a + 1 → PlacesAre net l' b (length_in net b)
    flow_more old new ahead b h = elim (le_or-lt a b) [
      | inl q ↦ subst (λ n. PlacesAre net l' n (length_in net n)) (let s : a ≡ b = omega arith in s) new
      | inr q ↦ record {
        fit = λ k i. fits_kept (way_at net a 0) net l l' ahead b k (flow-after b a k q i) ((old b q).fit k i);
        is = λ v k i. is-kept (way_at net a 0) net l l' ahead b k (flow-after b a k q i) ((old b q).is v k i);
      }
    ]
