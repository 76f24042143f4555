-- What a starting time that is worked out is: the least, or past the horizon.
use Rattle.std.specs.Prelude.{◌≡◌, ℕ, ◌+◌, ◌≤◌, ◌<◌, List, length, IfOk}
use Rattle.least.specs.Lists.{values}
use Rattle.least.specs.Fixed.{Least}
use Rattle.blocks.specs.Sheet.{here_slot, added, sums, Small}
use Rattle.starts.specs.Runs.{most_time}
use Rattle.std.specs.declared.result.Result.{Result}
use Rattle.std.specs.declared.result.Result.TheVariants.{Ok, Err}
use Rattle.starts.specs.declared.PastHorizon.{PastHorizon}

-- the least w equal to its sum, or that each w which its sum does not exceed has a response bound W + C − t past the horizon
abbrev pub BeginIs : List ℕ → ℕ → ℕ → (ℕ → ℕ) → Result ℕ PastHorizon → Type 0
BeginIs e u p x (Ok w) = Least (sums e u p x) w
BeginIs e u p x (Err past) = (w : ℕ) → sums e u p x w ≤ w → most_time + u < w + added e p

-- a starting time that is given keeps its response bound within the horizon
abbrev pub BeginFits : List ℕ → ℕ → ℕ → Result ℕ PastHorizon → Type 0
BeginFits e u p r = IfOk r (λ w. w + added e p ≤ most_time + u)

-- all slots but that of the starting time sought are as they were
pub record Kept (slots slots' : List ℕ) : Type 0 where
  pub others : (k : ℕ) → (k ≡ here_slot → ⊥) → values slots' k ≡ values slots k
  pub small : Small slots'
  pub long : length slots' ≡ length slots
