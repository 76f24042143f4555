-- How what of a sum hangs on the instant alone goes on, entry after entry. Assumes nothing.
use mathlib.Core.Path.{◌≡◌, ap, ◌∙◌}
use mathlib.Core.List.{List}
use Prim.Native.Nat.{ℕ, ◌+◌, ◌≤◌, ◌<◌}
use native.Mathlib.Omega.{arith}
use native.Mathlib.Numerals.{add-one}
use Rattle.least.specs.Fold.{sum_to}
use Rattle.least.specs.Lists.{values}
use Rattle.blocks.specs.Sheet.{block_at, entries_in, entry_at, instant_term, instant_sum, Small}
use Rattle.blocks.proofs.Terms.{instant_to, instant_to_small, instant_sum_small}

module _ (e : List ℕ) (p u : ℕ) where
  -- begun: a sum from what hangs on nothing
  pub begun_none : (at : ℕ) → at ≡ block_at e p → values e at ≡ values e (block_at e p) + instant_to e p u 0
  unfolding sum_to
  begun_none at is = omega (arith, ap (values e) is)

  pub begun_more : (q s r k : ℕ) → k ≡ entry_at e p q → s ≡ values e (block_at e p) + instant_to e p u q → r ≡ instant_term e u k →
      s + r ≡ values e (block_at e p) + instant_to e p u (q + 1)
  unfolding sum_to
  begun_more q s r k is h g = rw (add-one q) (omega (arith, ap (instant_term e u) is))

  pub begun_all : (q s : ℕ) → s ≡ values e (block_at e p) + instant_to e p u q → q ≡ entries_in e p → s ≡ instant_sum e p u
  unfolding instant_sum
  begun_all q s h is = h ∙ ap (λ n. values e (block_at e p) + instant_to e p u n) is

-- taken from one instant to another: what the first q entries add more
abbrev pub Gained : List ℕ → ℕ → ℕ → ℕ → ℕ → ℕ → Type 0
Gained e p u₀ u q s = s + instant_to e p u₀ q ≡ instant_sum e p u₀ + instant_to e p u q

module _ (e : List ℕ) (p u₀ u : ℕ) where
  pub gained_none : (s : ℕ) → s ≡ instant_sum e p u₀ → Gained e p u₀ u 0 s
  unfolding sum_to
  gained_none s h = omega arith

  pub gained_more : (q s r k : ℕ) → k ≡ entry_at e p q → Gained e p u₀ u q s → s + instant_term e u k ≡ instant_term e u₀ k + r → Gained e p u₀ u (q + 1) r
  unfolding sum_to
  gained_more q s r k is h g = rw (add-one q) (omega (arith, ap (instant_term e u) is, ap (instant_term e u₀) is))

  pub gained_all : (q s : ℕ) → Gained e p u₀ u q s → q ≡ entries_in e p → s ≡ instant_sum e p u
  unfolding instant_sum
  gained_all q s h is = omega (arith, ap (instant_to e p u₀) is, ap (instant_to e p u) is)

  pub gained_small : Small e → u₀ < 16777216 → u < 16777216 → entries_in e p ≤ 1024 → (q s : ℕ) → q < entries_in e p → Gained e p u₀ u q s → s < 1152921504606846976
  gained_small small h₀ h few q s l g = omega (arith, instant_sum_small e p u₀ small h₀ few, instant_to_small e p u small h q)
