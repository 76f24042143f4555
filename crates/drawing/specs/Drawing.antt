-- A flow as numbers.
use Rattle.std.specs.Prelude.{◌≡◌, List, ℕ, ◌+◌, ◌*◌, ◌<◌, length, get_or}
use Rattle.least.specs.Lists.{values}
use Rattle.flows.specs.declared.Flow.{Flow}
use Rattle.flows.specs.Lists.{most_nodes}

-- its numbers stand from that place on, and those before are as they were
pub record DrawnAt (f : Flow) (at : ℕ) (net net' : List ℕ) : Type 0 where
  pub number : values net' at ≡ f.number
  pub priority : values net' (at + 1) ≡ f.priority
  pub period : values net' (at + 2) ≡ f.period
  pub jitter : values net' (at + 3) ≡ f.jitter
  pub deadline : values net' (at + 4) ≡ f.deadline
  pub path : values net' (at + 5) ≡ f.length
  pub node : (k : ℕ) → k < most_nodes → values net' (at + (6 + 2 * k)) ≡ get_or f.nodes k 0
  pub cost : (k : ℕ) → k < most_nodes → values net' (at + (7 + 2 * k)) ≡ get_or f.costs k 0
  pub before : (k : ℕ) → k < at → values net' k ≡ values net k
  pub long : length net' ≡ length net
