-- What is noted of each place of a flow's path: Smin and M there, and what of the sum hangs on nothing.
use Rattle.std.specs.Prelude.{◌≡◌, List, ℕ, ◌+◌, ◌*◌, ◌≤◌, ◌<◌, length, take}
use Rattle.least.specs.Lists.{values}
use Rattle.rules.specs.Valid.{Valid}
use Rattle.nets.specs.Nets.{Whole, count_in, room_in, length_in, hop_in, path_in, flow_in, net_in}
use Rattle.terms.specs.Terms.{base_of, smin_to, way_to}

abbrev pub way_at : List ℕ → ℕ → ℕ → ℕ
way_at net a k = (a * room_in net + k) * 3

-- so small that no sum of them is cut
pub record WayFits (net ways : List ℕ) (a k : ℕ) : Type 0 where
  pub smin : values ways (way_at net a k) ≤ 8257410
  pub way : values ways (way_at net a k + 1) ≤ 8257410
  pub base : values ways (way_at net a k + 2) ≤ 12386115

pub record WayIs (net ways : List ℕ) (a k : ℕ) : Type 0 where
  pub smin : values ways (way_at net a k) ≡ smin_to (net_in net) (flow_in net a) k
  pub way : values ways (way_at net a k + 1) ≡ way_to (net_in net) (flow_in net a) k
  pub base : values ways (way_at net a k + 2) ≡ base_of (net_in net) (flow_in net a) (take (k + 1) (path_in net a)) (hop_in net a k).node

-- at the first n places of a's path
pub record PlacesAre (net ways : List ℕ) (a n : ℕ) : Type 0 where
  pub fit : (k : ℕ) → k < n → WayFits net ways a k
  pub is : Valid (net_in net) → (k : ℕ) → k < n → WayIs net ways a k

-- at every place of every path; what they are is said of valid sets
pub record WaysAre (net ways : List ℕ) : Type 0 where
  pub fit : (a k : ℕ) → a < count_in net → k < length_in net a → WayFits net ways a k
  pub is : Valid (net_in net) → (a k : ℕ) → a < count_in net → k < length_in net a → WayIs net ways a k
  pub long : count_in net * room_in net * 3 ≤ length ways
  pub whole : Whole net

-- a place of a path of the set, and what is noted
pub record Known (net ways : List ℕ) (a k : ℕ) : Type 0 where
  pub all : WaysAre net ways
  pub flow : a < count_in net
  pub place : k < length_in net a
