-- The load and the crossing test, by place, are the rules'. Assumes nothing.
use mathlib.Core.Path.{◌≡◌, refl, sym, ap, ◌∙◌}
use mathlib.Core.Bool.{Bool, true, false}
use mathlib.Core.List.{List}
use Prim.Native.Nat.{ℕ, ◌+◌, ◌*◌, ◌≤◌, ◌<◌}
use native.Mathlib.Omega.{arith}
use lib.Dec.{leb, ltb, eqb}
use lib.ListN.{get_or}
use lib.Seq.{take_all}
use borrow.Author.Tests.{eq-eqb, ne_eqb}
use Rattle.least.specs.Count.{pick, ceil}
use Rattle.least.specs.Fold.{sum_to, sum_of}
use Rattle.least.proofs.Fold.{sum_ext, sum-map, sum_to_ext, sum_to-add, sum_to-one, sum_to_list, any_at, any_none}
use Rattle.rules.specs.Net.{Flow}
use Rattle.rules.specs.Formula.{Own, Higher, Equal, Lower, both, role, higher_or_equal, lower, crossings, slowest, weight, own_weight, load}
use Rattle.rules.specs.Judge.{returns, misplaced}
use Rattle.rules.specs.Valid.{Distinct, Valid}
use Rattle.rules.proofs.Shared.{slowest_shared}
use Rattle.nets.specs.Nets.{count_in, length_in, field_in, path_in, flow_in, flows_in, net_in, no_flow}
use Rattle.nets.proofs.Reading.{path_length, flows_length, flow_at_lem}
use Rattle.nets.proofs.Sets.{flow_in_lem, distinct_in, one_place}
use Rattle.crossings.proofs.Costs.{slowest_to}
use Rattle.loads.specs.Load.{slowest_on, weight_in, packets_in, load_by, strays_in}

-- what a flow brings: as another, and as the flow itself
both-parts : (i j : Flow) (c s : ℕ) →
    c * pick (lower (role i j)) 0 s ≡ pick (higher_or_equal (role i j)) (c * s) 0 + pick (eqb i.number j.number) (c * s) 0
unfolding role
both-parts i j c s = go (eqb i.number j.number) (ltb i.priority j.priority) (eqb i.priority j.priority)
  where
    go : (t u w : Bool) →
        c * pick (lower (pick t Own (pick u Higher (pick w Equal Lower)))) 0 s
        ≡ pick (higher_or_equal (pick t Own (pick u Higher (pick w Equal Lower)))) (c * s) 0 + pick t (c * s) 0
    go true u w = omega arith
    go false true w = omega arith
    go false false true = omega arith
    go false false false = omega arith

module _ (net : List ℕ) where
  -- over the flows of the set
  sum-flows : (f : Flow → ℕ) → sum_to (count_in net) (λ b. f (flow_in net b)) ≡ sum_of f (flows_in net)
  sum-flows f =
      sum_to_ext (count_in net) _ _ (λ b h. ap f (sym (flow_at_lem net b h))) ∙ ap (λ n. sum_to n (λ b. f (get_or (flows_in net) b no_flow))) (sym (flows_length net))
      ∙ sum_to_list f (flows_in net) no_flow

  module _ (a : ℕ) where
    -- the packets of a flow in a time x, at its slowest cost on a's path
    abbrev takes : ℕ → Flow → ℕ
    takes x j = ceil x j.period * slowest (path_in net a) j.path

    others : (x : ℕ) → sum_of (λ j. pick (higher_or_equal (role (flow_in net a) j)) (takes x j) 0) (flows_in net)
        ≡ sum_of (λ j. pick (higher_or_equal (role (flow_in net a) j.flow)) (ceil x j.flow.period * weight (path_in net a) j) 0) (crossings (net_in net) (flow_in net a))
    unfolding crossings weight
    others x =
        sum_ext _ _ (flows_in net)
        (λ j m. ap (λ c. pick (higher_or_equal (role (flow_in net a) j)) (ceil x j.period * c) 0)
        (sym (slowest_shared (path_in net a) (path_in net a) (λ n q. q) j.path)))
        ∙ sym (sum-map _ _ (flows_in net))

    slowest-on : (b : ℕ) → Distinct (path_in net b) → slowest_on net a b ≡ slowest (path_in net a) (path_in net b)
    slowest-on b d =
        sym (slowest_to net a b d (length_in net a) (omega arith))
        ∙ ap (λ P. slowest P (path_in net b)) (take_all (length_in net a) (path_in net a) (omega (arith, path_length net a)))

    module _ (on : a < count_in net) (v : Valid (net_in net)) where
      own : (x : ℕ) → sum_to (count_in net) (λ b. pick (eqb (field_in net a 0) (field_in net b 0)) (takes x (flow_in net b)) 0) ≡ takes x (flow_in net a)
      own x =
          sum_to-one (count_in net) a _ on (λ b h q. rw (ne_eqb (field_in net a 0) (field_in net b 0) (λ e. q (same b h e))))
          ∙ rw (eq-eqb (field_in net a 0) (field_in net a 0) refl)
        where
          same : (b : ℕ) → b < count_in net → field_in net a 0 ≡ field_in net b 0 → b ≡ a
          same b h e =
              sym (one_place (flows_in net) v.rising a b (omega (arith, flows_length net)) (omega (arith, flows_length net))
              (ap (λ f. f.number) (flow_at_lem net a on) ∙ e ∙ sym (ap (λ f. f.number) (flow_at_lem net b h))))

      pub load_whole : (x : ℕ) → load_by net (weight_in net a) x ≡ load (net_in net) (flow_in net a) x
      unfolding load_by load own_weight weight_in
      load_whole x = omega (
        arith,
        sum_to_ext (count_in net) (packets_in net (weight_in net a) x) _ parts,
        sum_to-add (count_in net) (λ b. pick (higher_or_equal (role (flow_in net a) (flow_in net b))) (takes x (flow_in net b)) 0)
            (λ b. pick (eqb (field_in net a 0) (field_in net b 0)) (takes x (flow_in net b)) 0),
        sum-flows (λ j. pick (higher_or_equal (role (flow_in net a) j)) (takes x j) 0),
        others x,
        own x,
      )
        where
          parts : (b : ℕ) → b < count_in net → packets_in net (weight_in net a) x b
              ≡ pick (higher_or_equal (role (flow_in net a) (flow_in net b))) (takes x (flow_in net b)) 0
              + pick (eqb (field_in net a 0) (field_in net b 0)) (takes x (flow_in net b)) 0
          parts b h =
              ap (λ s. ceil x (field_in net b 2) * pick (lower (role (flow_in net a) (flow_in net b))) 0 s)
              (slowest-on b (distinct_in net v b h))
              ∙ both-parts (flow_in net a) (flow_in net b) (ceil x (field_in net b 2)) (slowest (path_in net a) (path_in net b))

    -- the crossing test; n is how many flows there are, as the code has it
    module _ (n : ℕ) (len : n ≡ count_in net) (b : ℕ) where
      pub strays_found : b < n → (x : Bool) → x ≡ strays_in net a b → x ≡ true → true ≡ misplaced (net_in net) (flow_in net a)
      unfolding misplaced strays_in
      strays_found h x e t = sym (any_at _ (flow_in_lem net b (omega arith)) (sym e ∙ t))

      pub strays_none : n ≤ b → ((k : ℕ) → k < b → strays_in net a k ≡ false) → false ≡ misplaced (net_in net) (flow_in net a)
      unfolding misplaced strays_in
      strays_none q h =
          sym (any_none _ (flows_in net) no_flow
          (λ k i. let j : k < count_in net = omega (arith, flows_length net) in
          ap (λ f. both (leb (field_in net a 1) f.priority) (returns (path_in net a) f.path)) (flow_at_lem net k j) ∙ h k (omega arith)))
