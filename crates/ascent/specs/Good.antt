-- Response bounds on the way to the least settled ones.
use Rattle.std.specs.Prelude.{◌≡◌, List, ℕ, ◌+◌, ◌*◌, ◌≤◌, ◌<◌, length}
use Rattle.least.specs.Vector.{Underᵛ}
use Rattle.rules.specs.Net.{Net}
use Rattle.rules.specs.Formula.{Arrivals, arrivals}
use Rattle.rules.specs.Meaning.{LeastSettled}
use Rattle.rules.specs.Judge.{response}
use Rattle.rules.specs.Ready.{next}
use Rattle.least.specs.Lists.{values}
use Rattle.nets.specs.Nets.{flow_at, node_at}
use Rattle.entries.specs.Fields.{responses_in}

-- the arrival bounds that response bounds give; w is the room for nodes that each flow has
abbrev pub arrivals_in : Net → ℕ → List ℕ → Arrivals
arrivals_in N w replies = arrivals N (responses_in N w (values replies))

-- the response bound of flow b at place k, and what it would be with the arrival bounds so far
abbrev pub held : ℕ → List ℕ → ℕ → ℕ → ℕ
held w replies b k = values replies (b * w + k)

abbrev pub due : Net → ℕ → List ℕ → ℕ → ℕ → ℕ
due N w replies b k = response N (flow_at N b) (arrivals_in N w replies) (node_at (flow_at N b) k)

-- none above what it would be, none of the arrival bounds above a settled one, and each flow without a mark up to date
pub record Good (N : Net) (w : ℕ) (replies marks : List ℕ) : Type 0 where
  pub up : (b k : ℕ) → b < length N.flows → k < length (flow_at N b).path → held w replies b k ≤ due N w replies b k
  pub under : Underᵛ (next N) (arrivals_in N w replies)
  pub done : (b k : ℕ) → b < length N.flows → k < length (flow_at N b).path → values marks b ≡ 0 → held w replies b k ≡ due N w replies b k

-- the end: these are the least settled ones, and these the response bounds with them
pub record Rests (N : Net) (w : ℕ) (replies : List ℕ) : Type 0 where
  pub least : LeastSettled N (arrivals_in N w replies)
  pub responses : (b k : ℕ) → b < length N.flows → k < length (flow_at N b).path → held w replies b k ≡ due N w replies b k
