-- What an entry of a flow holds on the sheet of another, in the rules' words.
use Rattle.std.specs.Prelude.{Bool, not, List, [], ◌∷◌, ◌++◌, ℕ, zero, suc, ◌+◌, ◌-◌, ◌*◌, eqb, take}
use Rattle.least.specs.Count.{pick, count}
use Rattle.rules.specs.Net.{Hop, Flow, Net}
use Rattle.rules.specs.Formula.{Role, Own, Higher, Equal, Lower, both, role, lower, crosses, first_on, last_on, cost_at, smin, M, slowest}
use Rattle.nets.specs.Nets.{flow_at, position_of}
use Rattle.blocks.specs.Sheet.{here_slot, instant_slot, node_slot}
use Rattle.frames.specs.Frames.{Entry, no_entry}

abbrev pub up_to : Flow → ℕ → List Hop
up_to i p = take (p + 1) i.path

-- what an entry adds, where v gives what it may look at
unfoldable pub term_by : (ℕ → ℕ) → Entry → ℕ
term_by v x = count (v x.look + x.plus) x.less x.period * x.weight

-- S of flow b, whose path is l, at node h: 0 at its first node, elsewhere Lmax and the response bound at the node before. Of all response bounds,
-- which r gives, that of flow b at place k stands at b × w + k.
unfoldable pub arrival_by : Net → ℕ → (ℕ → ℕ) → ℕ → ℕ → List Hop → ℕ
arrival_by N w r b h l = pick (eqb (position_of h l) 0) 0 (N.lmax + r (b * w + position_of h l - 1))

-- of flow b on the sheet of flow a, at node h with the prefix P
module _ (N : Net) (w : ℕ) (r : ℕ → ℕ) (a : ℕ) (P : List Hop) (h : ℕ) where
  -- a higher flow's count looks at W at the last node shared, all others at the instant; the flow itself counts from its second packet on, its first
  -- stands in the base
  unfoldable pub entry_of : ℕ → Role → Entry
  entry_of b Own = record {
    look = instant_slot;
    plus = 0;
    less = (flow_at N a).period;
    period = (flow_at N a).period;
    weight = slowest P (flow_at N a).path;
  }
  entry_of b Higher = record {
    look = pick (eqb (last_on h P (flow_at N b).path) h) here_slot (node_slot (position_of (last_on h P (flow_at N b).path) (flow_at N a).path));
    plus = (flow_at N b).jitter + arrival_by N w r b (first_on P (flow_at N b).path) (flow_at N b).path;
    less = smin N (flow_at N b) (last_on h P (flow_at N b).path) + M N (flow_at N a) (first_on P (flow_at N b).path);
    period = (flow_at N b).period;
    weight = slowest P (flow_at N b).path;
  }
  entry_of b Equal = record {
    look = instant_slot;
    plus = (flow_at N b).jitter + arrival_by N w r b (first_on P (flow_at N b).path) (flow_at N b).path + arrival_by N w r a (first_on (flow_at N b).path P) (flow_at N a).path;
    less = (flow_at N a).jitter + smin N (flow_at N b) (first_on (flow_at N b).path P) + M N (flow_at N a) (first_on P (flow_at N b).path);
    period = (flow_at N b).period;
    weight = slowest P (flow_at N b).path;
  }
  entry_of b Lower = no_entry

  -- a flow that is not lower has an entry where it crosses
  unfoldable pub counted : ℕ → Bool
  counted b = both (not (lower (role (flow_at N a) (flow_at N b)))) (crosses P (flow_at N b).path)

  -- the entries of the flows below b
  unfoldable pub entries_to : ℕ → List Entry
  entries_to zero = []
  entries_to (suc b) = entries_to b ++ pick (counted b) (entry_of b (role (flow_at N a) (flow_at N b)) ∷ []) []

unfoldable pub added_of : Flow → ℕ → ℕ
added_of i h = cost_at i.path h + i.jitter

-- the place of the flow with that number
unfoldable pub place_in : ℕ → List Flow → ℕ
place_in n [] = 0
place_in n (i ∷ l) = pick (eqb i.number n) 0 (suc (place_in n l))

-- the response bounds that r holds, of a flow at a node
abbrev pub responses_in : Net → ℕ → (ℕ → ℕ) → Flow → ℕ → ℕ
responses_in N w r i h = r (place_in i.number N.flows * w + position_of h i.path)
