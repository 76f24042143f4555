-- The maximum of φ t − t over all t ≥ 0.
use Rattle.std.specs.Prelude.{◌≡◌, ℕ, zero, suc, ◌+◌, ◌-◌, ◌≤◌, ◌<◌, max, ltb}
use Rattle.least.specs.Count.{pick}

-- r is that maximum: reached at an instant, and nowhere exceeded
pub record Greatest (φ : ℕ → ℕ) (r : ℕ) : Type 0 where
  pub instant : ℕ
  pub reached : φ instant ≡ r + instant
  pub above : (t : ℕ) → φ t ≤ r + t

-- over the t < n
unfoldable pub best_to : (ℕ → ℕ) → ℕ → ℕ
best_to φ zero = 0
best_to φ (suc n) = max (best_to φ n) (φ n - n)

-- φ from the instant a on; nothing before it
unfoldable pub since : ℕ → (ℕ → ℕ) → ℕ → ℕ
since a φ t = pick (ltb t a) 0 (φ t)

-- r₀ was raised to the maximum of φ t − t over instants from a on: u is the first that reaches it, or u₀, if nothing is above r₀
pub record Peak (φ : ℕ → ℕ) (a r₀ u₀ r u : ℕ) : Type 0 where
  pub kept : r ≡ r₀ → u ≡ u₀
  pub first : r₀ < r → (a ≤ u) × (φ u - u ≡ r) × ((t : ℕ) → a ≤ t → t < u → φ t - t < r)
