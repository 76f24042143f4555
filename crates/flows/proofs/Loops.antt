-- The loops of the tests: a law for a turn, and for each way out.
use Prim.Native.Nat.{ℕ, ◌+◌, ◌<◌, ◌≤◌}
use mathlib.Core.Path.{◌≡◌, sym, ap, ◌∙◌}
use mathlib.Core.Bool.{Bool, true, false, not}
use native.Mathlib.Omega.{arith}
use lib.ListN.{length, get_or, drop}
use lib.Dec.{eqb}
use borrow.Author.Tests.{eq-eqb, ne_eqb, not-true, not-false}
use Rattle.rules.specs.Net.{Hop}
use Rattle.flows.specs.declared.Flow.{Flow}
use Rattle.flows.specs.Lists.{most_nodes, hops_of, path_of, unused_of}
use Rattle.flows.specs.Tests.{every, hop_fits, hop_zero, distinct, nodes_of, new_to, not_again}
use Rattle.flows.proofs.Each.{every_more, every_fails, every_end, distinct_more, distinct_fails, distinct_end}
use Rattle.flows.proofs.Arrays.{nowhere, length_hops, hop_at_lem, path_at, path_nodes, node_at}

abbrev hop_at : Flow → ℕ → Hop
hop_at f k = record { node = get_or f.nodes k 0; cost = get_or f.costs k 0 }

module _ (f : Flow) (k : ℕ) (nodes : length f.nodes ≡ most_nodes) (costs : length f.costs ≡ most_nodes) where
  module _ (n : ℕ) (e : n ≡ length (path_of f)) where
    module _ (inv : every hop_fits (drop k (path_of f)) ≡ every hop_fits (path_of f)) where
      module _ (r : Bool) (h : k < n) (g : r ≡ hop_fits (hop_at f k)) where
        pub used_more : not r ≡ false → every hop_fits (drop (k + 1) (path_of f)) ≡ every hop_fits (path_of f)
        used_more t =
            every_more hop_fits (path_of f) k nowhere _ inv (omega arith) (ap hop_fits (path_at f nodes costs k (omega arith)) ∙ sym g ∙ not-false r t)

        pub used_fails : not r ≡ true → false ≡ every hop_fits (path_of f)
        used_fails t =
            every_fails hop_fits (path_of f) k nowhere _ inv (omega arith) (ap hop_fits (path_at f nodes costs k (omega arith)) ∙ sym g ∙ not-true r t)

      pub used_end : n ≤ k → true ≡ every hop_fits (path_of f)
      used_end h = every_end hop_fits (path_of f) k nowhere _ inv (omega arith)

    module _ (inv : distinct (drop k (nodes_of f)) ≡ distinct (nodes_of f)) where
      module _ (r : Bool) (h : k < n) (g : r ≡ not_again f k) where
        alike : new_to (drop (k + 1) (nodes_of f)) (get_or (nodes_of f) k 0) ≡ not_again f k
        alike = ap (new_to (drop (k + 1) (nodes_of f))) (node_at f nodes costs k (omega arith))

        pub differ_more : not r ≡ false → distinct (drop (k + 1) (nodes_of f)) ≡ distinct (nodes_of f)
        differ_more t = distinct_more (nodes_of f) k _ inv (omega (arith, path_nodes f nodes costs)) (alike ∙ sym g ∙ not-false r t)

        pub differ_fails : not r ≡ true → false ≡ distinct (nodes_of f)
        differ_fails t = distinct_fails (nodes_of f) k _ inv (omega (arith, path_nodes f nodes costs)) (alike ∙ sym g ∙ not-true r t)

      pub differ_end : n ≤ k → true ≡ distinct (nodes_of f)
      differ_end h = distinct_end (nodes_of f) k _ inv (omega (arith, path_nodes f nodes costs))

    -- node i against those after it
    module _ (x : ℕ) (w : Bool) (inv : new_to (drop k (nodes_of f)) x ≡ w) where
      module _ (h : k < n) where
        pub later_more : (get_or f.nodes k 0 ≡ x → ⊥) → new_to (drop (k + 1) (nodes_of f)) x ≡ w
        later_more t =
            every_more (λ m. not (eqb m x)) (nodes_of f) k 0 w inv (omega (arith, path_nodes f nodes costs))
            (ap (λ (m : ℕ). not (eqb m x)) (node_at f nodes costs k (omega arith)) ∙ ap not (ne_eqb _ _ t))

        pub later_fails : get_or f.nodes k 0 ≡ x → false ≡ w
        later_fails t =
            every_fails (λ m. not (eqb m x)) (nodes_of f) k 0 w inv (omega (arith, path_nodes f nodes costs))
            (ap (λ (m : ℕ). not (eqb m x)) (node_at f nodes costs k (omega arith)) ∙ ap not (eq-eqb _ _ t))

      pub later_end : n ≤ k → true ≡ w
      later_end h = every_end (λ m. not (eqb m x)) (nodes_of f) k 0 w inv (omega (arith, path_nodes f nodes costs))

  module _ (inv : every hop_zero (drop k (hops_of f.nodes f.costs)) ≡ every hop_zero (unused_of f)) where
    all : length (hops_of f.nodes f.costs) ≡ most_nodes
    all = length_hops f.nodes f.costs most_nodes nodes costs

    module _ (r : Bool) (h : k < most_nodes) (g : r ≡ hop_zero (hop_at f k)) where
      pub unused_more : not r ≡ false → every hop_zero (drop (k + 1) (hops_of f.nodes f.costs)) ≡ every hop_zero (unused_of f)
      unused_more t =
          every_more hop_zero (hops_of f.nodes f.costs) k nowhere _ inv (omega (arith, all))
          (ap hop_zero (hop_at_lem f.nodes f.costs most_nodes k nodes costs) ∙ sym g ∙ not-false r t)

      pub unused_fails : not r ≡ true → false ≡ every hop_zero (unused_of f)
      unused_fails t =
          every_fails hop_zero (hops_of f.nodes f.costs) k nowhere _ inv (omega (arith, all))
          (ap hop_zero (hop_at_lem f.nodes f.costs most_nodes k nodes costs) ∙ sym g ∙ not-true r t)

    pub unused_end : most_nodes ≤ k → true ≡ every hop_zero (unused_of f)
    unused_end h = every_end hop_zero (hops_of f.nodes f.costs) k nowhere _ inv (omega (arith, all))
