-- What the lists of a flow say of its arrays.
use Prim.Native.Nat.{ℕ, zero, suc, ◌<◌, ◌≤◌, min}
use mathlib.Core.Path.{◌≡◌, refl, sym, ap, ◌∙◌}
use mathlib.Core.List.{List, [], ◌∷◌, map}
use native.Mathlib.Omega.{arith}
use lib.ListN.{length, get_or, length-take, length-map}
use lib.Seq.{get_or-take, length-take-le}
use Rattle.rules.specs.Net.{Hop}
use Rattle.flows.specs.declared.Flow.{Flow}
use Rattle.flows.specs.Lists.{most_nodes, hops_of, path_of}
use Rattle.flows.specs.Tests.{nodes_of}
use Rattle.flows.specs.WellFormed.{Typed}
use mir.Val.{Fits}
use mir.Syntax.{w8, w16}

-- owning an array of structs tells the length of a mapped list
pub length_of-map : (A B : Type 0) (f : A → B) (l : List A) (n : ℕ) → length (map f l) ≡ n → length l ≡ n
length_of-map A B f l n e = sym (length-map l f) ∙ e

abbrev pub nowhere : Hop
nowhere = record { node = 0; cost = 0 }

pub length_hops : (ns cs : List ℕ) (n : ℕ) → length ns ≡ n → length cs ≡ n → length (hops_of ns cs) ≡ n
length_hops [] cs n e h = e
length_hops (x ∷ ns) [] n e h = absurd (omega arith)
length_hops (x ∷ ns) (c ∷ cs) zero e h = absurd (omega arith)
length_hops (x ∷ ns) (c ∷ cs) (suc n) e h = ap suc (length_hops ns cs n (omega arith) (omega arith))

pub hop_at_lem : (ns cs : List ℕ) (n k : ℕ) → length ns ≡ n → length cs ≡ n →
    get_or (hops_of ns cs) k nowhere ≡ record { node = get_or ns k 0; cost = get_or cs k 0 }
hop_at_lem [] [] n k e h = refl
hop_at_lem [] (c ∷ cs) n k e h = absurd (omega arith)
hop_at_lem (x ∷ ns) [] n k e h = absurd (omega arith)
hop_at_lem (x ∷ ns) (c ∷ cs) n zero e h = refl
hop_at_lem (x ∷ ns) (c ∷ cs) zero (suc k) e h = absurd (omega arith)
hop_at_lem (x ∷ ns) (c ∷ cs) (suc n) (suc k) e h = hop_at_lem ns cs n k (omega arith) (omega arith)

module _ (f : Flow) (nodes : length f.nodes ≡ most_nodes) (costs : length f.costs ≡ most_nodes) where
  all : length (hops_of f.nodes f.costs) ≡ most_nodes
  all = length_hops f.nodes f.costs most_nodes nodes costs

  pub path_short : f.length ≤ most_nodes → f.length ≡ length (path_of f)
  path_short h = sym (length-take-le f.length (hops_of f.nodes f.costs) (omega (arith, all)))

  pub path_capped : (n : ℕ) → n ≡ min f.length most_nodes → n ≡ length (path_of f)
  path_capped n e = omega (arith, length-take f.length (hops_of f.nodes f.costs), all)

  pub path_nodes : length (nodes_of f) ≡ length (path_of f)
  path_nodes = omega (arith, length-take f.length f.nodes, length-take f.length (hops_of f.nodes f.costs), all)

  pub path_at : (k : ℕ) → k < length (path_of f) → get_or (path_of f) k nowhere ≡ record { node = get_or f.nodes k 0; cost = get_or f.costs k 0 }
  path_at k h =
      let g : k < f.length = omega (arith, length-take f.length (hops_of f.nodes f.costs)) in
      get_or-take f.length (hops_of f.nodes f.costs) k nowhere g ∙ hop_at_lem f.nodes f.costs most_nodes k nodes costs

  pub node_at : (k : ℕ) → k < length (path_of f) → get_or (nodes_of f) k 0 ≡ get_or f.nodes k 0
  node_at k h =
      let g : k < f.length = omega (arith, length-take f.length (hops_of f.nodes f.costs)) in
      get_or-take f.length f.nodes k 0 g

-- what the type of a parameter says, as it is known of the parameter
pub typed : (f : Flow) → f.number < 256 → f.priority < 256 → f.period < 65536 → f.jitter < 65536 → f.deadline < 65536 → f.length < 256 →
    length f.nodes ≡ most_nodes → length f.costs ≡ most_nodes → ((k : ℕ) → Fits w8 (get_or f.nodes k 0)) → ((k : ℕ) → Fits w16 (get_or f.costs k 0)) → Typed f
typed f a b c d e g h i j k = record {
  number = a;
  priority = b;
  period = c;
  jitter = d;
  deadline = e;
  path = g;
  nodes = h;
  costs = i;
  node = λ n. (j n).fits;
  cost = λ n. (k n).fits;
}
