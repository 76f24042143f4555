-- A tally: at each tick of a window how much more a sum is than at the tick before.
use Rattle.std.specs.Prelude.{◌≡◌, List, ℕ, ◌+◌, ◌<◌, length}
use Rattle.least.specs.Lists.{values}

-- no number among the first n is so great that a weight more would be cut
abbrev pub Scant : ℕ → List ℕ → Type 0
Scant n l = (i : ℕ) → i < n → values l i < 2305843009213693952

-- what φ rises by, tick by tick, was added to the first n numbers
pub record Laid (φ : ℕ → ℕ) (n : ℕ) (tally tally' : List ℕ) : Type 0 where
  pub first : values tally' 0 ≡ values tally 0
  pub each : (i : ℕ) → i + 1 < n → values tally' (i + 1) + φ i ≡ values tally (i + 1) + φ (i + 1)
  pub long : length tally' ≡ length tally

-- φ tick by tick: a number at first, then as much more as the tally says
pub record Tallied (φ : ℕ → ℕ) (n : ℕ) (tally : List ℕ) : Type 0 where
  pub first : values tally 0 ≡ 0
  pub each : (i : ℕ) → i + 1 < n → φ (i + 1) ≡ φ i + values tally (i + 1)
