-- Whether a flow reads its own arrival bounds: it meets an equal flow, or it meets none. Assumes nothing.
use mathlib.Core.Path.{◌≡◌}
use mathlib.Core.Bool.{true, false}
use mathlib.Core.List.{List}
use Prim.Native.Nat.{ℕ, ◌<◌}
use native.Mathlib.Omega.{arith}
use Rattle.least.proofs.Fold.{any_at, any_none}
use Rattle.least.proofs.Lists.{length_to, at_to}
use Rattle.nets.specs.Nets.{count_in, flow_in, flows_in, no_flow}
use Rattle.nets.proofs.Sets.{flow_in_lem}
use Rattle.rounds.specs.Reading.{meets_equal, reads_own}

module _ (net : List ℕ) (a : ℕ) where
  pub own_met : (b : ℕ) → b < count_in net → meets_equal (flow_in net a) (flow_in net b) ≡ true → reads_own net a ≡ true
  unfolding reads_own
  own_met b h e = any_at (meets_equal (flow_in net a)) (flow_in_lem net b h) e

  pub own_unmet : ((b : ℕ) → b < count_in net → meets_equal (flow_in net a) (flow_in net b) ≡ false) → reads_own net a ≡ false
  unfolding reads_own flows_in
  own_unmet h =
      any_none (meets_equal (flow_in net a)) (flows_in net) no_flow
      (λ k q. let on : k < count_in net = omega (arith, length_to (flow_in net) (count_in net)) in rw (at_to (flow_in net) (count_in net) k no_flow on) (h k on))
