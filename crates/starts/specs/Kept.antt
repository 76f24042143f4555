-- What a walk over the instants keeps of the first m nodes, one every stride places.
use Rattle.std.specs.Prelude.{◌≡◌, List, ℕ, ◌+◌, ◌*◌, ◌≤◌, ◌<◌, length}
use Rattle.least.specs.Lists.{values}
use Rattle.blocks.specs.Sheet.{entries_in, instant_sum, Looking}
use Rattle.steps.specs.Kept.{kept_size, KeptAt}

-- room for m nodes, one every stride places, each with what is kept of its entries
pub record Strided (e : List ℕ) (stride m : ℕ) (steps : List ℕ) : Type 0 where
  pub each : (p : ℕ) → p < m → kept_size + entries_in e p ≤ stride
  pub long : m * stride ≤ length steps
  pub short : length steps ≤ 16777216

abbrev pub KeptTo : List ℕ → ℕ → ℕ → ℕ → List ℕ → ℕ → Type 0
KeptTo e stride end u steps m = (p : ℕ) → p < m → KeptAt e end u steps p (p * stride)

abbrev pub SumsTo : List ℕ → ℕ → ℕ → List ℕ → ℕ → Type 0
SumsTo e stride u steps m = (p : ℕ) → p < m → (values steps (p * stride) ≡ instant_sum e p u) × Looking e p (values steps (p * stride + 2))
