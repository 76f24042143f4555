-- How the arrays of a flow and of a table are read as the lists of the rules.
use Rattle.std.specs.Prelude.{ℕ, ◌-◌, List, [], ◌∷◌, ◌++◌, map, length, take, drop, replicate}
use Rattle.rules.specs.Net as net
use Rattle.flows.specs.declared.Flow.{Flow}
use Rattle.flows.specs.declared.Figures.{Figures}
use Rattle.flows.specs.declared.Row.{Row}
use Rattle.flows.specs.declared.Table.{Table}

-- the flows of a table, and the nodes of a path, at most
abbrev pub most_flows : ℕ
most_flows = 16

abbrev pub most_nodes : ℕ
most_nodes = 8

-- each node with the cost there
abbrev pub hops_of : List ℕ → List ℕ → List net.Hop
hops_of [] cs = []
hops_of (n ∷ ns) [] = []
hops_of (n ∷ ns) (c ∷ cs) = record { node = n; cost = c } ∷ hops_of ns cs

abbrev pub path_of : Flow → List net.Hop
path_of f = take f.length (hops_of f.nodes f.costs)

-- the places that the path does not use
abbrev pub unused_of : Flow → List net.Hop
unused_of f = drop f.length (hops_of f.nodes f.costs)

abbrev pub flow_of : Flow → net.Flow
flow_of f = record { number = f.number; priority = f.priority; period = f.period; jitter = f.jitter; deadline = f.deadline; path = path_of f }

abbrev pub figures_of : Figures → net.Figures
figures_of g = record { bound = g.bound; jitter = g.jitter; busy = g.busy }

abbrev pub no_flow : Flow
no_flow = record {
  number = 0;
  priority = 0;
  period = 0;
  jitter = 0;
  deadline = 0;
  length = 0;
  nodes = replicate most_nodes 0;
  costs = replicate most_nodes 0;
}

-- the flows that a row holds, and the row that holds these flows: unused places are zero
unfoldable pub held : Row → List Flow
held row = take row.count row.flows

unfoldable pub row_of : List Flow → Row
row_of fs = record { flows = fs ++ replicate (most_flows - length fs) no_flow; count = length fs }

abbrev pub net_from : ℕ → ℕ → List Flow → net.Net
net_from lmin lmax fs = record { lmin = lmin; lmax = lmax; flows = map flow_of fs }

abbrev pub net_of : ℕ → ℕ → Row → net.Net
net_of lmin lmax row = net_from lmin lmax (held row)

abbrev pub table_net : Table → net.Net
table_net t = net_of t.lmin t.lmax t.row
