-- What is noted of each two flows a and b of a set: for each place of a's path the place of its node on b's, what b is to a, the first place of a's
-- path that they share, and the place up to which b runs along a.
use Rattle.std.specs.Prelude.{◌≡◌, Bool, List, ℕ, ◌+◌, ◌*◌, ◌≤◌, ◌<◌, ltb, eqb, length, get_or, take}
use Rattle.least.specs.Count.{pick}
use Rattle.least.specs.Lists.{values, First}
use Rattle.rules.specs.Formula.{Role, Own, Higher, Equal, Lower, role, both, higher_or_equal, first_on}
use Rattle.crossings.specs.declared.Role as declared
use Rattle.crossings.specs.declared.Role.TheVariants as code
use Rattle.nets.specs.Nets.{Whole, count_in, room_in, length_in, hop_in, path_in, flow_in, no_hop, position_of}

-- the place on b's path of the node at place k of a's; as many as b has nodes, if it does not pass there
unfoldable pub place_on : List ℕ → ℕ → ℕ → ℕ → ℕ
place_on net a b k = position_of (hop_in net a k).node (path_in net b)

-- b's cost there; 0 if it does not pass
unfoldable pub cost_on : List ℕ → ℕ → ℕ → ℕ → ℕ
cost_on net a b k = (get_or (path_in net b) (place_on net a b k) no_hop).cost

-- what b is to a: of the code's enum the rules' word, and the number in the bytes
abbrev pub role_of : declared.Role → Role
role_of code.Own = Own
role_of code.Higher = Higher
role_of code.Equal = Equal
role_of code.Lower = Lower

abbrev pub side_number : Role → ℕ
side_number Own = 0
side_number Higher = 1
side_number Equal = 2
side_number Lower = 3

-- b is higher or equal, and runs along a on the prefix at place p
unfoldable pub along_to : List ℕ → ℕ → ℕ → ℕ → Bool
along_to net a b p =
    both (higher_or_equal (role (flow_in net a) (flow_in net b)))
    (eqb (first_on (path_in net b) (take (p + 1) (path_in net a))) (first_on (take (p + 1) (path_in net a)) (path_in net b)))

-- where the numbers of a pair stand
abbrev pub pair_size : List ℕ → ℕ
pair_size net = room_in net + 3

abbrev pub pair_at : List ℕ → ℕ → ℕ → ℕ
pair_at net a b = (a * count_in net + b) * pair_size net

pub record PairIs (net pairs : List ℕ) (a b : ℕ) : Type 0 where
  pub places : (k : ℕ) → k < length_in net a → values pairs (pair_at net a b + k) ≡ place_on net a b k
  pub side : values pairs (pair_at net a b + room_in net) ≡ side_number (role (flow_in net a) (flow_in net b))
  pub first : First (place_on net a b) (length_in net a) (length_in net b) (values pairs (pair_at net a b + room_in net + 1))
  -- the first place that stands before the first shared one on b's path
  pub turn : First (place_on net a b) (length_in net a)
      (pick (ltb (values pairs (pair_at net a b + room_in net + 1)) (length_in net a)) (place_on net a b (values pairs (pair_at net a b + room_in net + 1))) 0)
      (values pairs (pair_at net a b + room_in net + 2))

pub record PairsAre (net pairs : List ℕ) : Type 0 where
  pub each : (a b : ℕ) → a < count_in net → b < count_in net → PairIs net pairs a b
  pub long : count_in net * count_in net * pair_size net ≤ length pairs
  pub whole : Whole net

-- two flows of the set, and what is noted
pub record Noted (net pairs : List ℕ) (a b : ℕ) : Type 0 where
  pub all : PairsAre net pairs
  pub one : a < count_in net
  pub other : b < count_in net
