-- A flow that does not read another stays as that one's arrival bounds change. Assumes nothing.
use mathlib.Core.Path.{◌≡◌, refl, sym, ap, ◌∙◌, subst}
use mathlib.Core.Bool.{Bool, true, false}
use mathlib.Core.List.{List, [], ◌∷◌, map, Memᴰ}
use Prim.Native.Nat.{ℕ, ◌<◌}
use native.Mathlib.Omega.{arith}
use lib.Dec.{eqb}
use borrow.Author.Tests.{eqb-true, eqb-false}
use Rattle.least.specs.Count.{pick}
use Rattle.least.proofs.Fold.{false_true, any_at}
use Rattle.rules.specs.Net.{Flow, Net}
use Rattle.rules.specs.Formula.{Equal, both, role, higher_or_equal, crosses, slowest, Crossing, crossings, weight, Key, Arrivals}
use Rattle.rules.specs.Meaning.{Here}
use Rattle.rules.specs.Valid.{Valid}
use Rattle.rules.specs.Ready.{Agree}
use Rattle.rules.proofs.Shared.{shared, slowest_shared, uncrossed_nothing}
use Rattle.nets.specs.Nets.{count_in, flow_in, flows_in, net_in}
use Rattle.nets.proofs.Reading.{flows_length, flow_at_lem}
use Rattle.nets.proofs.Sets.{flow_here_lem, one-flow, own-role}
use Rattle.entries.specs.Fields.{place_in}
use Rattle.entries.proofs.Places.{place_at}
use Rattle.rounds.specs.Reading.{equal, reads_of, reads_own, reads_flow, Unread}

-- a crossing of i that weighs is that of a flow of the net which crosses i
module _ (N : Net) (i : Flow) where
  crossing-of : (k : Crossing) → Memᴰ k (crossings N i) → Here N k.flow × (weight i.path k ≡ slowest i.path k.flow.path)
  unfolding crossings weight
  crossing-of k m = go N.flows m
    where
      go : (l : List Flow) → Memᴰ k (map (λ j. record { flow = j; part = shared i.path j.path }) l) →
          Memᴰ k.flow l × (weight i.path k ≡ slowest i.path k.flow.path)
      go [] x' = elim x' [ ]
      go (j ∷ l) (Memᴰ.head e) = (
        Memᴰ.head (ap (λ (k : Crossing). k.flow) e),
        ap (weight i.path) e ∙ slowest_shared i.path i.path (λ n v. v) j.path
            ∙ sym (ap (λ (k : Crossing). slowest i.path k.flow.path) e),
      )
      go (j ∷ l) (Memᴰ.tail m) = let r = go l m in (Memᴰ.tail r.0, r.1)

  module _ (k : Crossing) (m : Memᴰ k (crossings N i)) (heavy : 0 < weight i.path k) where
    here : Here N k.flow
    here = (crossing-of k m).0

    meets : crosses i.path k.flow.path ≡ true
    meets = go (crosses i.path k.flow.path) refl
      where
        go : (t : Bool) → crosses i.path k.flow.path ≡ t → t ≡ true
        go true e = refl
        go false e = absurd (omega (arith, uncrossed_nothing i.path k.flow.path e, (crossing-of k m).1))

    read-there : higher_or_equal (role i k.flow) ≡ true → reads_of i k.flow ≡ true
    unfolding reads_of
    read-there q = rw (q, meets)

module _ (net : List ℕ) (val : Valid (net_in net)) (b a : ℕ) (hb : b < count_in net) (ha : a < count_in net) where
  abbrev N : Net
  N = net_in net

  abbrev i : Flow
  i = flow_in net b

  flow-on : (c : ℕ) → c < count_in net → Here N (flow_in net c)
  flow-on c h = subst (Here N) (flow_at_lem net c h) (flow_here_lem N c (omega (arith, flows_length net)))

  place-on : (c : ℕ) → c < count_in net → place_in (flow_in net c).number (flows_in net) ≡ c
  place-on c h =
      ap (λ j. place_in j.number (flows_in net)) (sym (flow_at_lem net c h)) ∙ place_at (flows_in net) val.rising c (omega (arith, flows_length net))

  module _ (S S' : Arrivals) (same : (k : Key) → (k.0 ≡ (flow_in net a).number → ⊥) → S k ≡ S' k) where
    -- another flow than b
    other : (b ≡ a → ⊥) → reads_of i (flow_in net a) ≡ false → Agree N i S S'
    other d e = record {
      higher = λ k m w q h. same _ (λ z. reading k m w z (ap higher_or_equal q));
      equal = λ k m w q h. same _ (λ z. reading k m w z (ap higher_or_equal q));
      own = λ k m w q h. same _ (λ z. d (sym (place-on b hb) ∙ ap (λ n. place_in n (flows_in net)) z ∙ place-on a ha));
    }
      where
        reading : (k : Crossing) → Memᴰ k (crossings N i) → 0 < weight i.path k → k.flow.number ≡ (flow_in net a).number →
            higher_or_equal (role i k.flow) ≡ true → ⊥
        reading k m w z q =
            let f : k.flow ≡ flow_in net a = one-flow (flows_in net) val.rising k.flow (flow_in net a) (here N i k m w) (flow-on a ha) z in
            false_true (sym (ap (reads_of i) f ∙ e) ∙ read-there N i k m w q)

    -- b itself
    itself : b ≡ a → reads_own net a ≡ false → Agree N i S S'
    unfolding reads_own
    itself d e = record {
      higher = λ k m w q h. same _ (λ z. apart k.flow z (ap higher_or_equal q));
      equal = λ k m w q h. same _ (λ z. apart k.flow z (ap higher_or_equal q));
      own = λ k m w q h. absurd (reading k m w q);
    }
      where
        apart : (j : Flow) → j.number ≡ (flow_in net a).number → higher_or_equal (role i j) ≡ true → ⊥
        apart j z q = false_true (ap higher_or_equal (sym (own-role i j (ap (λ n. (flow_in net n).number) d ∙ sym z))) ∙ q)

        reading : (k : Crossing) → Memᴰ k (crossings N i) → 0 < weight i.path k → role i k.flow ≡ Equal → ⊥
        reading k m w q =
            let t : both (equal (role i k.flow)) (crosses i.path k.flow.path) ≡ true = rw (q, meets N i k m w) in
            let u : reads_own net b ≡ true = any_at (λ j. both (equal (role i j)) (crosses i.path j.path)) (here N i k m w) t in
            false_true (sym (ap (reads_own net) d ∙ e) ∙ u)

  unread_in : reads_flow net b a ≡ false → (S S' : Arrivals) → ((k : Key) → (k.0 ≡ (flow_in net a).number → ⊥) → S k ≡ S' k) → Agree N i S S'
  unfolding reads_flow
  unread_in e S S' same = go (eqb b a) refl e
    where
      go : (t : Bool) → eqb b a ≡ t → pick t (reads_own net a) (reads_of i (flow_in net a)) ≡ false → Agree N i S S'
      go true q z = itself S S' same (eqb-true b a q) z
      go false q z = other S S' same (eqb-false b a q) z

  pub unread_is : reads_flow net b a ≡ false → Unread N b a
  unread_is e S S' same =
      subst (λ j. Agree N j S S') (sym (flow_at_lem net b hb))
      (unread_in e S S' (λ k ne. same k (λ z. ne (z ∙ ap (λ j. j.number) (flow_at_lem net a ha)))))
