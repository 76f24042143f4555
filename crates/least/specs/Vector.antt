-- Least fixed points of an operator on vectors: functions from an index of any kind to numbers.
use Rattle.std.specs.Prelude.{◌≡◌, Bool, true, false, ℕ, zero, suc, ◌≤◌}

module _ {I : Type 0} where
  infix 50 ◌⊑◌
  abbrev pub ◌⊑◌ : (I → ℕ) → (I → ℕ) → Type 0
  S ⊑ U = (i : I) → S i ≤ U i

  abbrev pub Risingᵛ : ((I → ℕ) → I → ℕ) → Type 0
  Risingᵛ F = (S U : I → ℕ) → S ⊑ U → F S ⊑ F U

  pub record Leastᵛ (F : (I → ℕ) → I → ℕ) (S : I → ℕ) : Type 0 where
    pub fixed : (i : I) → F S i ≡ S i
    pub lowest : (U : I → ℕ) → F U ⊑ U → S ⊑ U

  pub record Underᵛ (F : (I → ℕ) → I → ℕ) (S : I → ℕ) : Type 0 where
    pub up : S ⊑ F S
    pub low : (U : I → ℕ) → F U ⊑ U → S ⊑ U

-- step by step until it is still, at most n times
unfoldable pub settle_by : {A : Type 0} → (A → A → Bool) → (A → A) → ℕ → A → A
settle_by still step zero a = a
settle_by still step (suc n) a = let b = step a in elim (still a b) [ true ↦ a | false ↦ settle_by still step n b ]
