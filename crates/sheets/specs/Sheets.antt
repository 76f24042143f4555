-- What a flow's sheet holds, and what it holds while it is filled flow after flow.
use Rattle.std.specs.Prelude.{◌≡◌, List, [], ◌∷◌, ℕ, ◌+◌, ◌*◌, ◌≤◌, ◌<◌, ltb, length}
use Rattle.least.specs.Count.{pick}
use Rattle.least.specs.Lists.{values, First}
use Rattle.rules.specs.Net.{Net}
use Rattle.rules.specs.Valid.{Valid}
use Rattle.nets.specs.Nets.{count_in, room_in, length_in, net_in, flow_at, node_at}
use Rattle.crossings.specs.Pairs.{place_on, Noted}
use Rattle.terms.specs.Terms.{base_of}
use Rattle.ways.specs.Ways.{WaysAre}
use Rattle.blocks.specs.Sheet.{block_at, added, entries_in}
use Rattle.starts.specs.Runs.{Low}
use Rattle.frames.specs.Frames.{Entry, Listed, Frame, Grown}
use Rattle.entries.specs.Fields.{up_to, entries_to, added_of}

-- the sheet of flow a
pub record SheetIs (N : Net) (w : ℕ) (r : ℕ → ℕ) (a : ℕ) (e : List ℕ) : Type 0 where
  pub base : (p : ℕ) → p < length (flow_at N a).path → values e (block_at e p) ≡ base_of N (flow_at N a) (up_to (flow_at N a) p) (node_at (flow_at N a) p)
  pub added : (p : ℕ) → p < length (flow_at N a).path → added e p ≡ added_of (flow_at N a) (node_at (flow_at N a) p)
  pub entries : (p : ℕ) → p < length (flow_at N a).path →
      Listed e p (entries_to N w r a (up_to (flow_at N a) p) (node_at (flow_at N a) p) (length N.flows))

-- one entry in each block from place f on
abbrev pub from_on : ℕ → (ℕ → Entry) → ℕ → List Entry
from_on f x p = pick (ltb f (p + 1)) (x p ∷ []) []

-- a sheet of flow a has an entry of flow b more in each block from the first place that they share on
pub record Joined (net : List ℕ) (a b : ℕ) (x : ℕ → ℕ → Entry) (e e' : List ℕ) : Type 0 where
  pub place : ℕ
  pub first : First (place_on net a b) (length_in net a) (length_in net b) place
  pub grown : Grown (Valid (net_in net)) (count_in net) (length_in net a) (from_on place (x place)) e e'

-- two flows of the set, what is noted, and response bounds
pub record Given (net ways replies : List ℕ) (a b : ℕ) : Type 0 where
  pub one : a < count_in net
  pub other : b < count_in net
  pub known : WaysAre net ways
  pub bounds : Low replies
  pub long : count_in net * room_in net ≤ length replies

-- of flow a, with the response bounds r
module _ (net : List ℕ) (r : ℕ → ℕ) (a : ℕ) where
  -- what block p has with the entries of the flows below b
  pub record BlockIs (b : ℕ) (e : List ℕ) (p : ℕ) : Type 0 where
    pub base : values e (block_at e p) ≡ base_of (net_in net) (flow_at (net_in net) a) (up_to (flow_at (net_in net) a) p) (node_at (flow_at (net_in net) a) p)
    pub added : added e p ≡ added_of (flow_at (net_in net) a) (node_at (flow_at (net_in net) a) p)
    pub entries : Listed e p (entries_to (net_in net) (room_in net) r a (up_to (flow_at (net_in net) a) p) (node_at (flow_at (net_in net) a) p) b)

  pub record Filled (b : ℕ) (e : List ℕ) : Type 0 where
    pub frame : Frame (count_in net) (length_in net a) e
    pub few : (p : ℕ) → p < length_in net a → entries_in e p ≤ b
    pub is : Valid (net_in net) → (p : ℕ) → p < length_in net a → BlockIs b e p
