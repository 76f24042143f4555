-- A set of flows and its link delays as numbers, and how they are read as the rules' network. The first numbers are: how many flows there are,
-- the room for nodes that each has, Lmin, Lmax; then for each flow its number, priority, T, J, D, path length, and a node and a cost for
-- each place of its room.
use Rattle.std.specs.Prelude.{List, [], ℕ, ◌+◌, ◌*◌, ◌≤◌, min, length, get_or}
use Rattle.least.specs.Lists.{values, list_to}
use Rattle.rules.specs.Net.{Hop, Flow, Net}
use Rattle.rules.specs.Formula.{before}

-- flows, and nodes of a path: so few that no sum is cut
abbrev pub few : ℕ
few = 63

abbrev pub count_in : List ℕ → ℕ
count_in net = min few (values net 0)

abbrev pub room_in : List ℕ → ℕ
room_in net = min few (values net 1)

-- the numbers of every flow are there
abbrev pub Whole : List ℕ → Type 0
Whole net = 4 + count_in net * (6 + 2 * room_in net) ≤ length net

-- number k of flow a
unfoldable pub field_in : List ℕ → ℕ → ℕ → ℕ
field_in net a k = values net (4 + a * (6 + 2 * room_in net) + k)

abbrev pub length_in : List ℕ → ℕ → ℕ
length_in net a = min (room_in net) (field_in net a 5)

abbrev pub hop_in : List ℕ → ℕ → ℕ → Hop
hop_in net a k = record { node = field_in net a (6 + 2 * k); cost = field_in net a (7 + 2 * k) }

unfoldable pub path_in : List ℕ → ℕ → List Hop
path_in net a = list_to (hop_in net a) (length_in net a)

abbrev pub flow_in : List ℕ → ℕ → Flow
flow_in net a = record {
  number = field_in net a 0;
  priority = field_in net a 1;
  period = field_in net a 2;
  jitter = field_in net a 3;
  deadline = field_in net a 4;
  path = path_in net a;
}

unfoldable pub flows_in : List ℕ → List Flow
flows_in net = list_to (flow_in net) (count_in net)

abbrev pub net_in : List ℕ → Net
net_in net = record { lmin = values net 2; lmax = values net 3; flows = flows_in net }

-- by place: a hop of a path, a flow of a network, and what is behind the end
abbrev pub no_hop : Hop
no_hop = record { node = 0; cost = 0 }

abbrev pub no_flow : Flow
no_flow = record { number = 0; priority = 0; period = 0; jitter = 0; deadline = 0; path = [] }

abbrev pub flow_at : Net → ℕ → Flow
flow_at N a = get_or N.flows a no_flow

abbrev pub node_at : Flow → ℕ → ℕ
node_at i p = (get_or i.path p no_hop).node

-- how many nodes stand before the first that is h: all of them if none is
abbrev pub position_of : ℕ → List Hop → ℕ
position_of h l = length (before h l)
