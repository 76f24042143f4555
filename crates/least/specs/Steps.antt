-- Where something that rises with the instant steps up.
use Rattle.std.specs.Prelude.{◌≡◌, ℕ, ◌≤◌, ◌<◌}

-- r is the first instant after u at which φ steps up; the end, if there is none before it
pub record Step (φ : ℕ → ℕ) (u end r : ℕ) : Type 0 where
  pub later : u < r
  pub most : r ≤ end
  pub still : (v : ℕ) → u ≤ v → v < r → φ v ≡ φ u
  pub up : r < end → φ u < φ r
