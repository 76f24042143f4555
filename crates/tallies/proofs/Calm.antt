-- How long a node, the first nodes, and all of them over window after window are calm. Assumes nothing.
use mathlib.Core.Path.{◌≡◌, subst}
use mathlib.Core.Logic.{inl, inr}
use mathlib.Core.List.{List}
use Prim.Native.Nat.{ℕ, ◌+◌, ◌-◌, ◌≤◌, ◌<◌}
use native.Mathlib.Omega.{arith}
use borrow.Author.Count.{below_more}
use Rattle.least.specs.Lists.{values}
use Rattle.least.proofs.Count.{le_or-lt}
use Rattle.blocks.specs.Sheet.{added}
use Rattle.tallies.specs.Ceilings.{ceiling_sum, Calm, Above, CalmAt, CalmTo, NextAbove}

-- the ticks before i are calm at node p, which is not above its ceiling at u without a sum
pub record Calming (e best : List ℕ) (p u limit sum i : ℕ) : Type 0 where
  pub limited : limit + added e p ≡ values best p + u
  pub running : sum ≡ ceiling_sum e best p (u + (i - 1))
  pub calm : (j : ℕ) → j < i → Calm e best p (u + j)

module _ (e best : List ℕ) (u n : ℕ) where
  -- the first nodes are calm, so none of them has its ceiling below 0
  pub calm_to_fits : (m r : ℕ) → 0 < r → CalmTo e best m u n r → (q : ℕ) → q < m → added e q ≤ values best q + u
  calm_to_fits m r some c q h = omega (arith, c.calm q 0 h some)

  pub calm_to_more : (p r s : ℕ) → CalmTo e best p u n r → CalmAt e best p u r s → CalmTo e best (p + 1) u n s
  calm_to_more p r s c a = record {
    most = omega (arith, c.most, a.most);
    calm = λ q i h g. below_more (λ x. Calm e best x (u + i)) p (λ x k. c.calm x i k (omega (arith, a.most))) (a.calm i g) q h;
    above = λ h. elim (le_or-lt r s) [
      | inl q ↦
          let is : r ≡ s = omega (arith, a.most) in
          let w = c.above (omega arith) in
          (w.0, omega (arith, w.1), subst (λ x. Above e best w.0 (u + x)) is w.2)
      | inr q ↦ (p, omega arith, a.above q)
    ];
  }

-- from an instant up to u all of the first m nodes are calm
pub record CalmFrom (e best : List ℕ) (m from u : ℕ) : Type 0 where
  pub later : from ≤ u
  pub calm : (p v : ℕ) → p < m → from ≤ v → v < u → Calm e best p v

module _ (e best : List ℕ) (m from : ℕ) where
  module _ (u n r : ℕ) (f : CalmFrom e best m from u) (c : CalmTo e best m u n r) where
    pub calm_from_on : CalmFrom e best m from (u + r)
    calm_from_on = record { later = omega (arith, f.later); calm = go }
      where
        go : (p v : ℕ) → p < m → from ≤ v → v < u + r → Calm e best p v
        go p v h g k = elim (le_or-lt u v) [
          | inl q ↦
              let is : u + (v - u) ≡ v = omega arith in
              subst (Calm e best p) is (c.calm p (v - u) h (omega arith))
          | inr q ↦ f.calm p v h g q
        ]

    pub calm_from_above : (end : ℕ) → u + n ≤ end → r < n → NextAbove e best m from end (u + r)
    calm_from_above end h g = record {
      later = calm_from_on.later;
      most = omega arith;
      calm = calm_from_on.calm;
      above = λ k. c.above g;
    }
