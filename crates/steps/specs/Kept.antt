-- What a walk over the instants keeps of a node: what of its sum hangs on the instant alone, the next step of that, whether an entry looks at a
-- starting time, then the next step of each entry.
use Rattle.std.specs.Prelude.{◌≡◌, List, ℕ, ◌+◌, ◌≤◌, ◌<◌}
use Rattle.least.specs.Lists.{values}
use Rattle.blocks.specs.Sheet.{entries_in, entry_at, instant_sum, Looking}
use Rattle.steps.specs.Steps.{EntryStep, NodeStep}

abbrev pub kept_size : ℕ
kept_size = 3

-- at a place
pub record KeptAt (e : List ℕ) (end u : ℕ) (steps : List ℕ) (p at : ℕ) : Type 0 where
  pub sum : values steps at ≡ instant_sum e p u
  pub next : NodeStep e p u end (values steps (at + 1))
  pub looks : Looking e p (values steps (at + 2))
  pub each : (q : ℕ) → q < entries_in e p → EntryStep e (entry_at e p q) u end (values steps (at + kept_size + q))
  -- none before the node's
  pub after : (q : ℕ) → q < entries_in e p → values steps (at + 1) ≤ values steps (at + kept_size + q)
