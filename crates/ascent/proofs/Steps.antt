-- What a turn of settling keeps, and what its end gives. Assumes nothing.
use mathlib.Core.Path.{◌≡◌, refl, sym, ap, ap₂, ◌∙◌, subst}
use mathlib.Core.Bool.{Bool, true, false}
use mathlib.Core.Logic.{◌⊎◌, inl, inr}
use mathlib.Core.List.{List, Memᴰ}
use Prim.Native.Nat.{ℕ, suc, ◌+◌, ◌*◌, ◌≤◌, ◌<◌}
use native.Mathlib.Omega.{arith}
use native.Mathlib.Nat.{le_refl, le_trans, le_of_eq}
use lib.Dec.{eqb}
use lib.ListN.{length, get_or}
use borrow.Author.Tests.{eqb-true, eqb-false}
use Rattle.least.specs.Count.{pick}
use Rattle.least.specs.Lists.{values}
use Rattle.least.proofs.Fold.{max_ext}
use Rattle.least.specs.Vector.{◌⊑◌}
use Rattle.least.proofs.Vector.{underᵛ_between, underᵛ_done}
use Rattle.rules.specs.Net.{Flow, Net}
use Rattle.rules.specs.Formula.{horizon, Key, Arrivals, arriving, arrivals}
use Rattle.rules.specs.Meaning.{On, Here, Settled}
use Rattle.rules.specs.Valid.{Valid}
use Rattle.rules.specs.Judge.{response}
use Rattle.rules.specs.Ready.{Ready, next}
use Rattle.rules.proofs.Below.{arriving-le, arrivals-le}
use Rattle.rules.proofs.Path.{visits_member}
use Rattle.rules.proofs.Settle.{next_rising, responses_rise, past_none, rest_least}
use Rattle.rules.proofs.Agree.{response_agree}
use Rattle.nets.specs.Nets.{no_flow, flow_at, node_at, position_of}
use Rattle.nets.proofs.Places.{visits_at, position_below, position_node, position_at}
use Rattle.nets.proofs.Sets.{flow_here_lem}
use Rattle.entries.specs.Fields.{responses_in}
use Rattle.entries.proofs.Places.{place_at}
use Rattle.rounds.specs.Reading.{Unread}
use Rattle.ascent.specs.Good.{arrivals_in, held, due, Good, Rests}

pub member_place : {A : Type 0} {x : A} {l : List A} (d : A) → Memᴰ x l → (k : ℕ) × (k < length l) × (get_or l k d ≡ x)
member_place d (Memᴰ.head e) = (0, omega arith, sym e)
member_place d (Memᴰ.tail m) = let r = member_place d m in (suc r.0, omega (arith, r.1), r.2)

module _ (N : Net) (val : Valid N) (ready : (i : Flow) → Here N i → Ready N i) (w : ℕ) where
  abbrev n : ℕ
  n = length N.flows

  -- flows and nodes by place
  pub held_at : (replies : List ℕ) (b k : ℕ) → b < n → k < length (flow_at N b).path → responses_in N w (values replies) (flow_at N b) (node_at (flow_at N b) k) ≡ held w replies b k
  held_at replies b k hb hk =
      ap₂ (λ p q. values replies (p * w + q)) (place_at N.flows val.rising b hb)
      (position_at (flow_at N b).path (val.flows (flow_at N b) (flow_here_lem N b hb)).distinct k hk)

  by-node : (R R' : Flow → ℕ → ℕ) (b : ℕ) → ((k : ℕ) → k < length (flow_at N b).path → R (flow_at N b) (node_at (flow_at N b) k) ≤ R' (flow_at N b) (node_at (flow_at N b) k)) →
      (h : ℕ) → On (flow_at N b) h → R (flow_at N b) h ≤ R' (flow_at N b) h
  by-node R R' b le h o =
      let l = (flow_at N b).path in
      subst (λ x. R (flow_at N b) x ≤ R' (flow_at N b) x) (position_node l h o) (le (position_of h l) (position_below l h o))

  everywhere : (R R' : Flow → ℕ → ℕ) → ((b k : ℕ) → b < n → k < length (flow_at N b).path → R (flow_at N b) (node_at (flow_at N b) k) ≤ R' (flow_at N b) (node_at (flow_at N b) k)) →
      (i : Flow) → Here N i → (h : ℕ) → On i h → R i h ≤ R' i h
  everywhere R R' le i m =
      let f = member_place no_flow m in
      subst (λ j. (h : ℕ) → On j h → R j h ≤ R' j h) f.2 (by-node R R' f.0 (λ k. le f.0 k f.1))

  arrivals-by-place : (R R' : Flow → ℕ → ℕ) → ((b k : ℕ) → b < n → k < length (flow_at N b).path → R (flow_at N b) (node_at (flow_at N b) k) ≤ R' (flow_at N b) (node_at (flow_at N b) k)) →
      arrivals N R ⊑ arrivals N R'
  arrivals-by-place R R' le = arrivals-le N N (le_refl _) (λ i. i) R R' (λ i m. m) (λ i m. refl) (λ i m. refl) (everywhere R R' le)

  on-node : (b k : ℕ) → k < length (flow_at N b).path → On (flow_at N b) (node_at (flow_at N b) k)
  on-node b k h = visits_at (flow_at N b).path k h

  -- from zero, every flow marked
  pub good_start : (replies marks : List ℕ) → ((x : ℕ) → values replies x ≡ 0) → ((b : ℕ) → b < n → values marks b ≡ 0 → ⊥) → Good N w replies marks
  good_start replies marks none all = record {
    up = λ b k hb hk. omega (arith, none (b * w + k));
    under = record { up = low-arrivals (arrivals_in N w replies); low = λ U h k. le_trans (low-arrivals U k) (h k) };
    done = λ b k hb hk z. absurd (all b hb z);
  }
    where
      low-arrivals : (U : Arrivals) → arrivals_in N w replies ⊑ next N U
      low-arrivals U =
          arrivals-by-place (responses_in N w (values replies)) (λ i. response N i U) (λ b k hb hk. omega (arith, held_at replies b k hb hk, none (b * w + k)))

  module _ (replies marks : List ℕ) (good : Good N w replies marks) where
    -- a response bound past the horizon
    pub good_past : (a k : ℕ) → a < n → k < length (flow_at N a).path → horizon < due N w replies a k → (U : Arrivals) → Settled N U → ⊥
    good_past a k ha hk over =
        past_none N ready (arrivals_in N w replies) good.under (flow_at N a) (flow_here_lem N a ha) (node_at (flow_at N a) k) (on-node a k hk) over

    -- a flow loses its mark only if it is up to date
    pub good_still : (a : ℕ) (marks' : List ℕ) →
        ((b : ℕ) → b < n → values marks' b ≡ 0 →
        ((b ≡ a) × ((k : ℕ) → k < length (flow_at N a).path → due N w replies a k ≤ held w replies a k)) ⊎ (values marks b ≡ 0)) →
        Good N w replies marks'
    good_still a marks' clear = record {
      up = good.up;
      under = good.under;
      done = λ b k hb hk z. elim (clear b hb z) [
        | inl e ↦ subst (λ c. (k < length (flow_at N c).path) → c < n → held w replies c k ≡ due N w replies c k) (sym e.0) (λ q r. omega (arith, e.1 k q, good.up a k r q)) hk hb
        | inr y ↦ good.done b k hb hk y
      ];
    }

    -- a flow is raised, to no more than what is due
    module _ (a : ℕ) (ha : a < n) (replies' : List ℕ)
        (raised : (k : ℕ) → k < length (flow_at N a).path → (held w replies a k ≤ held w replies' a k) × (held w replies' a k ≤ due N w replies a k))
        (kept : (b k : ℕ) → b < n → k < length (flow_at N b).path → (b ≡ a → ⊥) → held w replies' b k ≡ held w replies b k) where
      either : (b k : ℕ) → b < n → k < length (flow_at N b).path → (held w replies b k ≤ held w replies' b k) × (held w replies' b k ≤ due N w replies b k)
      either b k hb hk = go (eqb b a) refl
        where
          go : (t : Bool) → eqb b a ≡ t → (held w replies b k ≤ held w replies' b k) × (held w replies' b k ≤ due N w replies b k)
          go true e =
              subst (λ c. (k < length (flow_at N c).path) → c < n → (held w replies c k ≤ held w replies' c k) × (held w replies' c k ≤ due N w replies c k)) (sym (eqb-true b a e))
              (λ q r. raised k q) hk hb
          go false e = (omega (arith, kept b k hb hk (eqb-false b a e)), omega (arith, kept b k hb hk (eqb-false b a e), good.up b k hb hk))

      S : Arrivals
      S = arrivals_in N w replies

      S' : Arrivals
      S' = arrivals_in N w replies'

      rises : S ⊑ S'
      unfolding S S'
      rises = arrivals-by-place (responses_in N w (values replies)) (responses_in N w (values replies'))
          (λ b k hb hk. omega (arith, held_at replies b k hb hk, held_at replies' b k hb hk, (either b k hb hk).0))

      stays : S' ⊑ next N S
      unfolding S S'
      stays = arrivals-by-place (responses_in N w (values replies')) (λ i. response N i (arrivals_in N w replies))
          (λ b k hb hk. omega (arith, held_at replies' b k hb hk, (either b k hb hk).1))

      more : (b k : ℕ) → b < n → k < length (flow_at N b).path → due N w replies b k ≤ due N w replies' b k
      unfolding S S'
      more b k hb hk = responses_rise N ready (arrivals_in N w replies) (arrivals_in N w replies') rises (flow_at N b) (flow_here_lem N b hb) (node_at (flow_at N b) k) (on-node b k hk)

      -- only the arrival bounds of flow a change
      other-flow : (b : ℕ) → b < n → (b ≡ a → ⊥) → (h : ℕ) → On (flow_at N b) h → responses_in N w (values replies) (flow_at N b) h ≡ responses_in N w (values replies') (flow_at N b) h
      other-flow b hb ne h o = omega (
        arith,
        by-node (responses_in N w (values replies)) (responses_in N w (values replies')) b (λ k hk. omega (arith, held_at replies b k hb hk, held_at replies' b k hb hk, kept b k hb hk ne)) h o,
        by-node (responses_in N w (values replies')) (responses_in N w (values replies)) b (λ k hk. omega (arith, held_at replies b k hb hk, held_at replies' b k hb hk, kept b k hb hk ne)) h o,
      )

      elsewhere : (k : Key) → (k.0 ≡ (flow_at N a).number → ⊥) → S k ≡ S' k
      unfolding S S' arrivals
      elsewhere k ne = max_ext _ _ N.flows (λ i m. go i m (eqb i.number k.0) refl)
        where
          go : (i : Flow) → Here N i → (t : Bool) → eqb i.number k.0 ≡ t →
              pick t (arriving N.lmax (responses_in N w (values replies) i) 0 i.path k.1) 0
              ≡ pick t (arriving N.lmax (responses_in N w (values replies') i) 0 i.path k.1) 0
          go i m false e = refl
          go i m true e =
              let f = member_place no_flow m in
              let other : f.0 ≡ a → ⊥ = λ q. ne (sym (eqb-true i.number k.0 e) ∙ ap (λ j. j.number) (sym f.2) ∙ ap (λ b. (flow_at N b).number) q) in
              let same : (h : ℕ) → On i h → responses_in N w (values replies) i h ≡ responses_in N w (values replies') i h =
              subst (λ j. (h : ℕ) → On j h → responses_in N w (values replies) j h ≡ responses_in N w (values replies') j h) f.2 (other-flow f.0 f.1 other) in
              omega (
                arith,
                arriving-le (le_refl N.lmax) (responses_in N w (values replies) i) (responses_in N w (values replies') i) i.path
                    (λ q r. le_of_eq (same q.node (visits_member r))) 0 0 (le_refl 0) k.1,
                arriving-le (le_refl N.lmax) (responses_in N w (values replies') i) (responses_in N w (values replies) i) i.path
                    (λ q r. le_of_eq (sym (same q.node (visits_member r)))) 0 0 (le_refl 0) k.1,
              )

      pub good_raised : (marks' : List ℕ) →
          ((b : ℕ) → b < n → values marks' b ≡ 0 →
          (((b ≡ a) × ((k : ℕ) → k < length (flow_at N a).path → due N w replies a k ≤ held w replies' a k)) ⊎ (values marks b ≡ 0)) × Unread N b a) →
          Good N w replies' marks'
      unfolding S S'
      good_raised marks' clear = record {
        up = λ b k hb hk. le_trans (either b k hb hk).1 (more b k hb hk);
        under = underᵛ_between (next_rising N ready) good.under rises stays;
        done = λ b k hb hk z. up_to_date b k hb hk (clear b hb z).0 ∙ same b k hb hk (clear b hb z).1;
      }
        where
          up_to_date : (b k : ℕ) → b < n → k < length (flow_at N b).path →
              ((b ≡ a) × ((k : ℕ) → k < length (flow_at N a).path → due N w replies a k ≤ held w replies' a k)) ⊎ (values marks b ≡ 0) → held w replies' b k ≡ due N w replies b k
          up_to_date b k hb hk (inl e) =
              subst (λ c. (k < length (flow_at N c).path) → held w replies' c k ≡ due N w replies c k) (sym e.0) (λ q. omega (arith, (raised k q).1, e.1 k q)) hk
          up_to_date b k hb hk (inr z) = omega (arith, (either b k hb hk).0, (either b k hb hk).1, good.done b k hb hk z)

          same : (b k : ℕ) → b < n → k < length (flow_at N b).path → Unread N b a → due N w replies b k ≡ due N w replies' b k
          same b k hb hk u =
              response_agree N (flow_at N b) (arrivals_in N w replies) (arrivals_in N w replies') (u (arrivals_in N w replies) (arrivals_in N w replies') elsewhere)
              (ready (flow_at N b) (flow_here_lem N b hb)) (node_at (flow_at N b) k) (on-node b k hk)

    -- no flow is marked
    pub good_end : ((b : ℕ) → b < n → values marks b ≡ 0) → ((x : ℕ) → values replies x ≤ horizon) → Rests N w replies
    good_end clear low = record { least = rest_least N ready (arrivals_in N w replies) (underᵛ_done good.under down) within; responses = now }
      where
        now : (b k : ℕ) → b < n → k < length (flow_at N b).path → held w replies b k ≡ due N w replies b k
        now b k hb hk = good.done b k hb hk (clear b hb)

        down : next N (arrivals_in N w replies) ⊑ arrivals_in N w replies
        down = arrivals-by-place (λ i. response N i (arrivals_in N w replies)) (responses_in N w (values replies)) (λ b k hb hk. omega (arith, held_at replies b k hb hk, now b k hb hk))

        within : (i : Flow) → Here N i → (h : ℕ) → On i h → response N i (arrivals_in N w replies) h ≤ horizon
        within = everywhere (λ i. response N i (arrivals_in N w replies)) (λ i h. horizon) (λ b k hb hk. omega (arith, now b k hb hk, low (b * w + k)))
