-- How the sums of a sheet rise, and where their starting times lie. Assumes nothing.
use mathlib.Core.Path.{◌≡◌, refl, sym}
use mathlib.Core.Bool.{Bool, true, false}
use mathlib.Core.List.{List}
use Prim.Native.Nat.{ℕ, ◌-◌, ◌≤◌, ◌<◌}
use native.Mathlib.Omega.{arith}
use native.Mathlib.Nat.{le_refl, le_trans, le_of_eq}
use lib.Dec.{eqb}
use borrow.Author.Tests.{eqb-false}
use Rattle.least.specs.Count.{pick}
use Rattle.least.specs.Lists.{values}
use Rattle.least.specs.Fixed.{Rising, Least, Under}
use Rattle.least.specs.Starts.{Order}
use Rattle.least.proofs.Fold.{sum_to-le}
use Rattle.least.proofs.Fixed.{least_unique, least_ext, under_ext}
use Rattle.least.proofs.Starts.{starts_within}
use Rattle.blocks.specs.Sheet.{entries_in, entry_at, here_slot, instant_slot, node_slot, term_of, sheet_sum, seen, sums, Fit}
use Rattle.blocks.proofs.Terms.{term-le}
use Rattle.starts.specs.Runs.{StartsOf}

-- a sum rises with what its counts look at
pub sheet-le : (e : List ℕ) (p : ℕ) (v v' : ℕ → ℕ) →
    ((q : ℕ) → q < entries_in e p → v (values e (entry_at e p q)) ≤ v' (values e (entry_at e p q))) → sheet_sum e p v ≤ sheet_sum e p v'
unfolding sheet_sum
sheet-le e p v v' h = omega (
  arith,
  sum_to-le (entries_in e p) (λ q. term_of e v (entry_at e p q)) (λ q. term_of e v' (entry_at e p q)) (λ q on. term-le e v v' (entry_at e p q) (h q on)),
)

pub sheet_ext : (e : List ℕ) (p : ℕ) (v v' : ℕ → ℕ) → ((k : ℕ) → v k ≡ v' k) → sheet_sum e p v ≡ sheet_sum e p v'
sheet_ext e p v v' h = omega (
  arith,
  sheet-le e p v v' (λ q on. le_of_eq (h (values e (entry_at e p q)))),
  sheet-le e p v' v (λ q on. le_of_eq (sym (h (values e (entry_at e p q))))),
)

-- with the instant, the starting times before p and the one sought
module _ (e : List ℕ) (m : ℕ) (fit : Fit e m) where
  pub sums_le : (u u' p : ℕ) → p < m → u ≤ u' → (x x' : ℕ → ℕ) → ((l : ℕ) → l < p → x l ≤ x' l) → (w w' : ℕ) → w ≤ w' → sums e u p x w ≤ sums e u' p x' w'
  sums_le u u' p hp hu x x' hx w w' hw = sheet-le e p (seen x w u) (seen x' w' u') (λ q hq. at (values e (entry_at e p q)) (fit p q hp hq))
    where
      at : (k : ℕ) → k < node_slot p → seen x w u k ≤ seen x' w' u' k
      at k h = go (eqb k here_slot) refl (eqb k instant_slot) refl
        where
          go : (a : Bool) → eqb k here_slot ≡ a → (b : Bool) → eqb k instant_slot ≡ b →
              pick a w (pick b u (x (k - 2))) ≤ pick a w' (pick b u' (x' (k - 2)))
          go true d b f = hw
          go false d true f = hu
          go false d false f =
              let y = eqb-false k here_slot d in
              let z = eqb-false k instant_slot f in
              hx (k - 2) (omega (arith, y, z))

  pub sums_same : (u p : ℕ) → p < m → (x x' : ℕ → ℕ) → ((l : ℕ) → l < p → x l ≡ x' l) → (w : ℕ) → sums e u p x w ≡ sums e u p x' w
  sums_same u p hp x x' h w = omega (
    arith,
    sums_le u u p hp (le_refl u) x x' (λ l q. le_of_eq (h l q)) w w (le_refl w),
    sums_le u u p hp (le_refl u) x' x (λ l q. le_of_eq (sym (h l q))) w w (le_refl w),
  )

  pub sums_rising : (u p : ℕ) → p < m → (x : ℕ → ℕ) → Rising (sums e u p x)
  sums_rising u p hp x a b h = sums_le u u p hp (le_refl u) x x (λ l q. le_refl (x l)) a b h

  -- the order of the nodes, by place
  abbrev places : Order ℕ
  places = record { On = λ p. p < m; Before = λ l p. (l < p) × (l < m); rank = λ p. p; on = λ l p b. b.1; less = λ l p b. b.0 }

  module _ (W : ℕ → ℕ → ℕ) (starts : StartsOf e m W) where
    -- starting times rise with the instant
    pub starts_rise : (u u' p : ℕ) → p < m → u ≤ u' → W u p ≤ W u' p
    starts_rise u u' p hp hu = omega (
      arith,
      starts_within places 0 (sums e u) (sums e u') (W u) (W u')
          (λ h o x x' hx w w' hw. omega (arith, sums_le u u' h o hu x x' (λ l q. omega (arith, hx l (q, omega arith))) w w' (omega arith)))
          (starts u) (starts u') p hp,
    )

    -- those of an earlier instant are a start from below
    pub later_under : (u u' p : ℕ) → p < m → u ≤ u' → Under (sums e u' p (W u')) (W u p)
    later_under u u' p hp hu = record {
      up = le_trans (le_of_eq (sym (starts u p hp).fixed))
          (sums_le u u' p hp hu (W u) (W u') (λ l q. starts_rise u u' l (omega arith) hu) (W u p) (W u p) (le_refl _));
      low = λ v h. le_trans (starts_rise u u' p hp hu) ((starts u' p hp).lowest v h);
    }

    -- what is least over the starting times before p is the starting time at p
    pub start_found : (u p w : ℕ) → p < m → (x : ℕ → ℕ) → ((l : ℕ) → l < p → x l ≡ W u l) → Least (sums e u p x) w → w ≡ W u p
    start_found u p w hp x h q = least_unique (least_ext (sums_same u p hp x (W u) h) q) (starts u p hp)

    pub from_under : (u p v : ℕ) → p < m → (x : ℕ → ℕ) → ((l : ℕ) → l < p → x l ≡ W u l) → Under (sums e u p (W u)) v → Under (sums e u p x) v
    from_under u p v hp x h = under_ext (λ y. sym (sums_same u p hp x (W u) h y))
