-- Least fixed vectors of a rising operator. Assumes nothing.
use mathlib.Core.Path.{◌≡◌, refl}
use mathlib.Core.Bool.{Bool, true, false}
use mathlib.Core.Logic.{◌⊎◌, inl, inr}
use mathlib.Core.List.{List, Memᴰ}
use Prim.Native.Nat.{ℕ, zero, suc, ◌+◌, ◌≤◌, ◌<◌, zero-le}
use native.Mathlib.Omega.{arith}
use native.Mathlib.Nat.{le_trans, le_of_eq}
use Rattle.least.specs.Fold.{sum_of}
use Rattle.least.specs.Vector.{◌⊑◌, Risingᵛ, Leastᵛ, Underᵛ, settle_by}
use Rattle.least.proofs.Count.{le_or-lt}
use Rattle.least.proofs.Fold.{sum_le, sum_tight}

module _ {I : Type 0} where
  -- what is not raised, and lies below all that is not raised, is fixed
  pub least_of : {F : (I → ℕ) → I → ℕ} {S : I → ℕ} → Risingᵛ F → F S ⊑ S → ((U : I → ℕ) → F U ⊑ U → S ⊑ U) → Leastᵛ F S
  least_of {F} {S} m d l = record { fixed = λ i. omega (arith, d i, l (F S) (m (F S) S d) i); lowest = l }

  -- rising iteration: from zero, kept by each step, the least one at rest
  pub underᵛ_zero : (F : (I → ℕ) → I → ℕ) → Underᵛ F (λ i. 0)
  underᵛ_zero F = record { up = λ i. zero-le; low = λ U h i. zero-le }

  -- Anything between S and F S will do: places may be brought up one by one, in any order.
  pub underᵛ_between : {F : (I → ℕ) → I → ℕ} {S U : I → ℕ} → Risingᵛ F → Underᵛ F S → S ⊑ U → U ⊑ F S → Underᵛ F U
  underᵛ_between {F} {S} {U} m u a b = record {
    up = λ i. le_trans (b i) (m S U a i);
    low = λ X h i. le_trans (b i) (le_trans (m S X (u.low X h) i) (h i));
  }

  pub underᵛ_step : {F : (I → ℕ) → I → ℕ} {S : I → ℕ} → Risingᵛ F → Underᵛ F S → Underᵛ F (F S)
  underᵛ_step {F} {S} m u = underᵛ_between m u u.up (λ i. le_of_eq refl)

  pub underᵛ_done : {F : (I → ℕ) → I → ℕ} {S : I → ℕ} → Underᵛ F S → F S ⊑ S → Leastᵛ F S
  underᵛ_done {F} {S} u h = record { fixed = λ i. omega (arith, h i, u.up i); lowest = u.low }

  -- entry by entry equal vectors serve alike
  pub underᵛ_ext : {F : (I → ℕ) → I → ℕ} {S U : I → ℕ} → Risingᵛ F → ((i : I) → S i ≡ U i) → Underᵛ F S → Underᵛ F U
  underᵛ_ext {F} {S} {U} m e u = underᵛ_between m u (λ i. le_of_eq (e i)) (λ i. omega (arith, e i, u.up i))

  -- Existence below a vector that is not raised, where finitely many places count: elsewhere the operator gives 0.
  module _ (F : (I → ℕ) → I → ℕ) (m : Risingᵛ F) (places : List I)
      (few : (i : I) → Memᴰ i places ⊎ ((S : I → ℕ) → F S i ≡ 0)) where
    no_gain : (S : I → ℕ) → Underᵛ F S → sum_of (F S) places ≤ sum_of S places → F S ⊑ S
    no_gain S u h i = elim (few i) [
      | inl r ↦ sum_tight S (F S) places (λ j q. u.up j) h i r
      | inr z ↦ omega (arith, z S)
    ]

    exists-from : (U : I → ℕ) → F U ⊑ U → (k : ℕ) (S : I → ℕ) → Underᵛ F S → sum_of U places ≤ sum_of S places + k → (S : I → ℕ) × Leastᵛ F S
    exists-from U d zero S u h = (S, underᵛ_done u (no_gain S u (omega (arith, sum_le (F S) U places (λ i r. (underᵛ_step m u).low U d i)))))
    exists-from U d (suc k) S u h = elim (le_or-lt (sum_of (F S) places) (sum_of S places)) [
      | inl q ↦ (S, underᵛ_done u (no_gain S u q))
      | inr q ↦ exists-from U d k (F S) (underᵛ_step m u) (omega arith)
    ]

    pub least_exists : (U : I → ℕ) → F U ⊑ U → (S : I → ℕ) × Leastᵛ F S
    least_exists U d = exists-from U d (sum_of U places) (λ i. 0) (underᵛ_zero F) (omega arith)

-- iteration on any kind of state
module _ {A : Type 0} (still : A → A → Bool) (step : A → A) where
  -- what each step keeps holds at the end
  pub settle_keeps : (P : A → Type 0) → ((a : A) → P a → P (step a)) → (n : ℕ) (a : A) → P a → P (settle_by still step n a)
  unfolding settle_by
  settle_keeps P k zero a p = p
  settle_keeps P k (suc n) a p = go (settle_keeps P k n (step a) (k a p)) (still a (step a))
    where
      go : P (settle_by still step n (step a)) → (b : Bool) → P (elim b [ true ↦ a | false ↦ settle_by still step n (step a) ])
      go ih true = p
      go ih false = ih

  -- it is still at the end, or the measure has gained one at each step
  pub settle_rests : (P : A → Type 0) → ((a : A) → P a → P (step a)) → (μ : A → ℕ) → ((a : A) → P a → still a (step a) ≡ false → μ a < μ (step a)) →
      (n : ℕ) (a : A) → P a → (still (settle_by still step n a) (step (settle_by still step n a)) ≡ true) ⊎ (μ a + n ≤ μ (settle_by still step n a))
  unfolding settle_by
  settle_rests P k μ g zero a p = inr (omega arith)
  settle_rests P k μ g (suc n) a p = go (settle_rests P k μ g n (step a) (k a p)) (still a (step a)) refl
    where
      out : Bool → A
      out b = elim b [ true ↦ a | false ↦ settle_by still step n (step a) ]

      go : (still (settle_by still step n (step a)) (step (settle_by still step n (step a))) ≡ true) ⊎ (μ (step a) + n ≤ μ (settle_by still step n (step a))) →
          (b : Bool) → still a (step a) ≡ b → (still (out b) (step (out b)) ≡ true) ⊎ (μ a + suc n ≤ μ (out b))
      go ih true e = inl e
      go (inl r) false e = inl r
      go (inr r) false e = inr (omega (arith, g a p e))
