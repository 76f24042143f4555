-- What is read of the numbers: paths and flows by place. Assumes nothing.
use mathlib.Core.Path.{◌≡◌}
use mathlib.Core.List.{List}
use Prim.Native.Nat.{ℕ, ◌≤◌, ◌<◌}
use lib.ListN.{length, get_or, take}
use Rattle.least.specs.Lists.{list_to}
use Rattle.least.proofs.Lists.{length_to, at_to}
use Rattle.least.proofs.Ranges.{take_listed}
use Rattle.nets.specs.Nets.{count_in, length_in, hop_in, path_in, flow_in, flows_in, net_in, no_hop, no_flow, flow_at}

module _ (net : List ℕ) where
  pub path_length : (a : ℕ) → length (path_in net a) ≡ length_in net a
  unfolding path_in
  path_length a = length_to (hop_in net a) (length_in net a)

  pub path_at : (a k : ℕ) → k < length_in net a → get_or (path_in net a) k no_hop ≡ hop_in net a k
  unfolding path_in
  path_at a k h = at_to (hop_in net a) (length_in net a) k no_hop h

  pub path_front : (a n : ℕ) → n ≤ length_in net a → take n (path_in net a) ≡ list_to (hop_in net a) n
  unfolding path_in
  path_front a n h = take_listed (hop_in net a) n (length_in net a) h

  pub flows_length : length (flows_in net) ≡ count_in net
  unfolding flows_in
  flows_length = length_to (flow_in net) (count_in net)

  pub flow_at_lem : (a : ℕ) → a < count_in net → flow_at (net_in net) a ≡ flow_in net a
  unfolding flows_in
  flow_at_lem a h = at_to (flow_in net) (count_in net) a no_flow h
