-- A well-formed flow is determined by the rules' flow that it stands for: unused places are zero.
use Prim.Native.Nat.{ℕ, ◌<◌}
use mathlib.Core.Path.{◌≡◌, refl, sym, ap, ◌∙◌}
use mathlib.Core.Bool.{Bool, true, false}
use mathlib.Core.List.{List}
use native.Mathlib.Omega.{arith}
use lib.ListN.{length, get_or}
use lib.Seq.{ext_get_or}
use lib.Dec.{ltb}
use borrow.Author.Tests.{ltb-true, ltb-false}
use Rattle.rules.specs.Net as net
use Rattle.flows.specs.declared.Flow.{Flow}
use Rattle.flows.specs.Lists.{path_of, flow_of}
use Rattle.flows.specs.WellFormed.{WellFormed, Typed}
use Rattle.flows.proofs.Arrays.{nowhere, path_short, path_at}

module _ (f g : Flow) (t : Typed f) (u : Typed g) (v : WellFormed f) (w : WellFormed g) (e : flow_of f ≡ flow_of g) where
  path : path_of f ≡ path_of g
  path = ap (λ (i : net.Flow). i.path) e

  long : f.length ≡ g.length
  long = path_short f t.nodes t.costs v.ranges.path.1 ∙ ap length path ∙ sym (path_short g u.nodes u.costs w.ranges.path.1)

  hop : Flow → ℕ → net.Hop
  hop i k = record { node = get_or i.nodes k 0; cost = get_or i.costs k 0 }

  used : (k : ℕ) → k < f.length → hop f k ≡ hop g k
  unfolding hop
  used k h =
      sym (path_at f t.nodes t.costs k (omega (arith, path_short f t.nodes t.costs v.ranges.path.1))) ∙
      ap (λ (l : List net.Hop). get_or l k nowhere) path ∙
      path_at g u.nodes u.costs k (omega (arith, long, path_short g u.nodes u.costs w.ranges.path.1))

  each : (k : ℕ) → hop f k ≡ hop g k
  unfolding hop
  each k = go (ltb k f.length) refl
    where
      go : (b : Bool) → ltb k f.length ≡ b → hop f k ≡ hop g k
      go true h = used k (ltb-true k f.length h)
      go false h =
          let n = v.ranges.unused k (ltb-false k f.length h) in
          let m = w.ranges.unused k (omega (arith, long, ltb-false k f.length h)) in
          rw (n.0, n.1, m.0, m.1)

  pub same_flow : f ≡ g
  unfolding hop
  same_flow =
      let nodes = ext_get_or 0 f.nodes g.nodes (t.nodes ∙ sym u.nodes) (λ k h. ap (λ (x : net.Hop). x.node) (each k)) in
      let costs = ext_get_or 0 f.costs g.costs (t.costs ∙ sym u.costs) (λ k h. ap (λ (x : net.Hop). x.cost) (each k)) in
      λ x. record {
        number = (e x).number;
        priority = (e x).priority;
        period = (e x).period;
        jitter = (e x).jitter;
        deadline = (e x).deadline;
        length = long x;
        nodes = nodes x;
        costs = costs x;
      }
