-- What the busy length and the crossing test take of each flow of a set, by place: proofs/Whole shows that it is what the rules say.
use Rattle.std.specs.Prelude.{◌≡◌, Bool, List, ℕ, ◌*◌, ◌≤◌, ◌<◌, max, min, leb}
use Rattle.least.specs.Count.{pick, ceil}
use Rattle.least.specs.Fold.{sum_to, max_to}
use Rattle.least.specs.Lists.{values}
use Rattle.rules.specs.Formula.{both, role, lower}
use Rattle.rules.specs.Judge.{returns}
use Rattle.nets.specs.Nets.{count_in, field_in, length_in, path_in, flow_in}
use Rattle.crossings.specs.Pairs.{cost_on}

-- b's slowest cost on a's path
abbrev pub slowest_on : List ℕ → ℕ → ℕ → ℕ
slowest_on net a b = max_to (length_in net a) (cost_on net a b)

-- the weight of b's packets in a's busy length
unfoldable pub weight_in : List ℕ → ℕ → ℕ → ℕ
weight_in net a b = pick (lower (role (flow_in net a) (flow_in net b))) 0 (slowest_on net a b)

-- the weights of the first n flows
pub record Weighed (net weights : List ℕ) (a n : ℕ) : Type 0 where
  pub are : (b : ℕ) → b < n → values weights b ≡ weight_in net a b
  pub most : (b : ℕ) → b < n → values weights b ≤ 65535

-- what b's packets in a time x bring
abbrev pub packets_in : List ℕ → (ℕ → ℕ) → ℕ → ℕ → ℕ
packets_in net w x b = ceil x (field_in net b 2) * w b

unfoldable pub load_by : List ℕ → (ℕ → ℕ) → ℕ → ℕ
load_by net w x = sum_to (count_in net) (packets_in net w x)

-- the next length to try after x: the load, from 1 to past H
abbrev pub next_length : List ℕ → (ℕ → ℕ) → ℕ → ℕ
next_length net w x = min 65536 (max 1 (load_by net w x))

-- b's priority is at least a's, and b leaves a's path and meets it again
unfoldable pub strays_in : List ℕ → ℕ → ℕ → Bool
strays_in net a b = both (leb (field_in net a 1) (field_in net b 1)) (returns (path_in net a) (path_in net b))
