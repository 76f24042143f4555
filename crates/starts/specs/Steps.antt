-- The next instant at which something of a sheet steps up, whatever the starting times.
use Rattle.std.specs.Prelude.{List, ℕ}
use Rattle.least.specs.Fold.{sum_to}
use Rattle.least.specs.Steps.{Step}
use Rattle.blocks.specs.Sheet.{instant_sum}

-- the sums at the first m nodes together, so at every prefix of the path
abbrev pub SheetStep : List ℕ → ℕ → ℕ → ℕ → ℕ → Type 0
SheetStep e m u end r = Step (λ v. sum_to m (λ p. instant_sum e p v)) u end r
