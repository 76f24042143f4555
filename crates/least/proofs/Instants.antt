-- Finitely many instants decide a maximum over all. Assumes nothing.
use mathlib.Core.Path.{◌≡◌, refl, sym, ap, ◌∙◌, subst}
use mathlib.Core.Logic.{◌⊎◌, inl, inr}
use Prim.Native.Nat.{ℕ, zero, suc, ◌+◌, ◌-◌, ◌≤◌, ◌<◌, max}
use native.Mathlib.Omega.{arith}
use native.Mathlib.Nat.{le_refl}
use borrow.Author.Tests.{lt-ltb, le-ltb}
use Rattle.least.specs.Instants.{Greatest, best_to, since, Peak}
use Rattle.least.proofs.Count.{le_or-lt}

pub greatest_unique : {φ : ℕ → ℕ} {r s : ℕ} → Greatest φ r → Greatest φ s → r ≡ s
greatest_unique {φ} {r} {s} p q = omega (arith, p.reached, q.reached, p.above q.instant, q.above p.instant)

pub greatest_ext : {φ ψ : ℕ → ℕ} {r : ℕ} → ((t : ℕ) → φ t ≡ ψ t) → Greatest φ r → Greatest ψ r
greatest_ext {φ} {ψ} {r} e p = record {
  instant = p.instant;
  reached = omega (arith, e p.instant, p.reached);
  above = λ t. omega (arith, e t, p.above t);
}

-- compared at instants d apart, as two jitters that differ by d are: the same t
pub greatest-le : {φ ψ : ℕ → ℕ} {r s : ℕ} (d : ℕ) → ((t : ℕ) → φ t + d ≤ ψ (t + d)) → Greatest φ r → Greatest ψ s → r ≤ s
greatest-le {φ} {ψ} {r} {s} d h p q = omega (arith, h p.instant, p.reached, q.above (p.instant + d))

-- Where φ gains at most B over B instants, what bounds the instants below B bounds all.
pub decides : (φ : ℕ → ℕ) (B r : ℕ) → 0 < B → ((t : ℕ) → φ (t + B) ≤ φ t + B) → ((t : ℕ) → t < B → φ t ≤ r + t) → (t : ℕ) → φ t ≤ r + t
decides φ B r p s h t = go (suc t) t (le_refl _)
  where
    back : (t : ℕ) → B ≤ t → t ≡ t - B + B
    back t b = omega arith

    go : (n t : ℕ) → t < n → φ t ≤ r + t
    go zero t q = absurd (omega arith)
    go (suc n) t q = elim (le_or-lt B t) [
      | inl b ↦ omega (arith, ap φ (back t b), s (t - B), go n (t - B) (omega arith))
      | inr b ↦ h t b
    ]

pub best-above : (φ : ℕ → ℕ) (n t : ℕ) → t < n → φ t ≤ best_to φ n + t
unfolding best_to
best-above φ zero t h = absurd (omega arith)
best-above φ (suc n) t h = elim (le_or-lt n t) [
  | inl q ↦ subst (λ k. φ k ≤ max (best_to φ n) (φ n - n) + k) (same q) (omega arith)
  | inr q ↦ omega (arith, best-above φ n t q)
]
  where
    same : n ≤ t → n ≡ t
    same q = omega arith

pub best_ext : (φ ψ : ℕ → ℕ) → ((t : ℕ) → φ t ≡ ψ t) → (n : ℕ) → best_to φ n ≡ best_to ψ n
unfolding best_to
best_ext φ ψ h zero = refl
best_ext φ ψ h (suc n) = omega (arith, h n, best_ext φ ψ h n)

-- the best is reached, unless nothing lies above its instant
best_reached : (φ : ℕ → ℕ) (n : ℕ) → ((t : ℕ) × (φ t ≡ best_to φ n + t)) ⊎ (best_to φ n ≡ 0)
unfolding best_to
best_reached φ zero = inr refl
best_reached φ (suc n) = elim (le_or-lt (φ n - n) (best_to φ n)) [
  | inl q ↦ elim (best_reached φ n) [ inl r ↦ inl (r.0, omega (arith, r.1)) | inr r ↦ inr (omega arith) ]
  | inr q ↦ inl (n, omega arith)
]

-- the maximum over the instants below B is the maximum over all, and exists
pub greatest_found : (φ : ℕ → ℕ) (B : ℕ) → 0 < B → ((t : ℕ) → φ (t + B) ≤ φ t + B) → Greatest φ (best_to φ B)
greatest_found φ B b s = elim (best_reached φ B) [
  | inl r ↦ record { instant = r.0; reached = r.1; above = all }
  | inr z ↦ record { instant = 0; reached = omega (arith, best-above φ B 0 b); above = all }
]
  where
    all : (t : ℕ) → φ t ≤ best_to φ B + t
    all = decides φ B (best_to φ B) b s (best-above φ B)

-- what bounds φ t − t everywhere bounds the best
pub best-within : (φ : ℕ → ℕ) (r : ℕ) → ((t : ℕ) → φ t ≤ r + t) → (n : ℕ) → best_to φ n ≤ r
unfolding best_to
best-within φ r h zero = omega arith
best-within φ r h (suc n) = omega (arith, h n, best-within φ r h n)

module _ (a : ℕ) (φ : ℕ → ℕ) where
  pub since_before : (t : ℕ) → t < a → since a φ t ≡ 0
  unfolding since
  since_before t h = rw (lt-ltb t a h)

  pub since_on : (t : ℕ) → a ≤ t → since a φ t ≡ φ t
  unfolding since
  since_on t h = rw (le-ltb t a h)

  pub since_le : (t : ℕ) → since a φ t ≤ φ t
  since_le t = elim (le_or-lt a t) [
    | inl h ↦ omega (arith, since_on t h)
    | inr h ↦ omega (arith, since_before t h)
  ]

  pub best_none : (n : ℕ) → n ≤ a → best_to (since a φ) n ≡ 0
  unfolding best_to
  best_none zero h = refl
  best_none (suc n) h = omega (arith, best_none n (omega arith), since_before n (omega arith))

  -- an instant more, which is the peak, or the one before stays
  module _ (r₀ u₀ n r u : ℕ) (peak : Peak φ a r₀ u₀ r u) (on : a ≤ n) (best : r ≡ max r₀ (best_to (since a φ) n)) where
    pub peak_new : r < φ n - n → Peak φ a r₀ u₀ (φ n - n) n
    peak_new h = record {
      kept = λ e. absurd (omega arith);
      first = λ g. (on, refl, λ t p q. omega (arith, best-above (since a φ) n t q, since_on t p));
    }

pub peak-none : (φ : ℕ → ℕ) (a r₀ u₀ : ℕ) → Peak φ a r₀ u₀ r₀ u₀
peak-none φ a r₀ u₀ = record { kept = λ e. refl; first = λ h. absurd (omega arith) }

pub peak_unique : {φ : ℕ → ℕ} {a r₀ u₀ r u v : ℕ} → r₀ ≤ r → Peak φ a r₀ u₀ r u → Peak φ a r₀ u₀ r v → u ≡ v
peak_unique {φ} {a} {r₀} {u₀} {r} {u} {v} le p q = elim (le_or-lt r r₀) [
  | inl h ↦ p.kept (omega arith) ∙ sym (q.kept (omega arith))
  | inr h ↦ omega (arith, not-before (p.first h) (q.first h), not-before (q.first h) (p.first h))
]
  where
    not-before : {u v : ℕ} → (a ≤ u) × (φ u - u ≡ r) × ((t : ℕ) → a ≤ t → t < u → φ t - t < r) →
        (a ≤ v) × (φ v - v ≡ r) × ((t : ℕ) → a ≤ t → t < v → φ t - t < r) → u ≤ v
    not-before {u} {v} p q = elim (le_or-lt u v) [
      | inl h ↦ h
      | inr h ↦ absurd (omega (arith, p.2 v q.0 h, q.1))
    ]

-- from 0 on is all
pub best-all : (φ : ℕ → ℕ) (n : ℕ) → best_to (since 0 φ) n ≡ best_to φ n
best-all φ n = best_ext (since 0 φ) φ (λ t. since_on 0 φ t (omega arith)) n
