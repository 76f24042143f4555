-- What the formula takes at each place of a's path, read of whole paths by place. For a valid set it is what the rules take: proofs/Whole.
use Rattle.std.specs.Prelude.{List, ℕ, zero, suc, ◌+◌, ◌-◌, ◌*◌, max, ltb, eqb}
use Rattle.least.specs.Count.{pick}
use Rattle.least.specs.Fold.{sum_to, max_to, min_to}
use Rattle.least.specs.Lists.{values}
use Rattle.rules.specs.Formula.{both, role, lower, visits}
use Rattle.nets.specs.Nets.{count_in, length_in, hop_in, path_in, flow_in}
use Rattle.crossings.specs.Pairs.{cost_on, along_to}

module _ (net : List ℕ) (a : ℕ) where
  -- what b brings to M's least at place k, to the greatest cost there on the prefix at place p, to the greatest lower cost
  unfoldable pub least_by : ℕ → ℕ → ℕ
  least_by k b =
      pick (both (along_to net a b (length_in net a - 1)) (visits (path_in net b) (hop_in net a k).node)) (cost_on net a b k) (hop_in net a k).cost

  unfoldable pub greatest_by : ℕ → ℕ → ℕ → ℕ
  greatest_by p k b = pick (along_to net a b p) (cost_on net a b k) 0

  unfoldable pub lower_by : ℕ → ℕ → ℕ
  lower_by k b = pick (lower (role (flow_in net a) (flow_in net b))) (cost_on net a b k) 0

  unfoldable pub least_over : ℕ → ℕ
  least_over k = min_to (hop_in net a k).cost (count_in net) (least_by k)

  unfoldable pub greatest_over : ℕ → ℕ → ℕ
  greatest_over p k = max (hop_in net a k).cost (max_to (count_in net) (greatest_by p k))

  unfoldable pub lower_over : ℕ → ℕ
  lower_over k = max_to (count_in net) (lower_by k)

  -- of the places s and k the slower one: s, if both are equal
  unfoldable pub slower_of : ℕ → ℕ → ℕ
  slower_of s k = pick (ltb (hop_in net a s).cost (hop_in net a k).cost) k s

  -- the earliest slowest place up to place p
  unfoldable pub slowest_to : ℕ → ℕ
  slowest_to zero = 0
  slowest_to (suc k) = slower_of (slowest_to k) (suc k)

  -- term 4 at each place, and on the prefix at place p, whose slowest place is s; term 5 on the first k places
  unfoldable pub term4_by : ℕ → ℕ → ℕ → ℕ
  term4_by p s k = pick (eqb k s) 0 (greatest_over p k)

  unfoldable pub term4_over : ℕ → ℕ → ℕ
  term4_over p s = sum_to (p + 1) (term4_by p s)

  unfoldable pub term5_over : ℕ → ℕ
  term5_over k = sum_to k (λ j. lower_over j - 1)

  -- what hangs on nothing, with term 5 on the prefix at place p
  unfoldable pub base_over : ℕ → ℕ → ℕ
  base_over p term5 =
      term4_over p (slowest_to p) + term5 + p * values net 3 + (hop_in net a (slowest_to p)).cost - (hop_in net a p).cost

  -- Smin and M behind the first k places
  unfoldable pub smin_over : ℕ → ℕ
  smin_over k = sum_to k (λ j. (hop_in net a j).cost + values net 2)

  unfoldable pub way_over : ℕ → ℕ
  way_over k = sum_to k (λ j. values net 2 + least_over j)
