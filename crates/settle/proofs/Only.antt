-- Any two outcomes that the contract of `settle` allows are equal, for a valid set with busy lengths. Assumes nothing.
use mathlib.Core.Path.{◌≡◌, refl, sym, ◌∙◌}
use mathlib.Core.Logic.{inl, inr}
use mathlib.Core.List.{List}
use Prim.Native.Nat.{ℕ, ◌≤◌, ◌<◌}
use native.Mathlib.Omega.{arith}
use native.Mathlib.Nat.{le_of_eq}
use lib.ListN.{length}
use Rattle.std.specs.declared.result.Result.{Result}
use Rattle.std.specs.declared.result.Result.TheVariants.{Ok, Err}
use Rattle.starts.specs.declared.PastHorizon.{PastHorizon}
use Rattle.least.proofs.Count.{le_or-lt}
use Rattle.rules.specs.Net.{Flow, Net}
use Rattle.rules.specs.Meaning.{Here}
use Rattle.rules.specs.Valid.{Valid}
use Rattle.rules.specs.Ready.{Ready}
use Rattle.rules.proofs.Settle.{responses_rise, least_settled_unique}
use Rattle.nets.specs.Nets.{count_in, room_in, length_in, net_in, flow_at, node_at}
use Rattle.nets.proofs.Reading.{flows_length}
use Rattle.nets.proofs.Places.{visits_at}
use Rattle.nets.proofs.Sets.{flow_here_lem}
use Rattle.ascent.specs.Good.{arrivals_in, held, due, Rests}
use Rattle.settle.specs.Turns.{BusiesAre, SettleIs}
use Rattle.settle.proofs.Work.{path_long}

due-le : (N : Net) → ((i : Flow) → Here N i → Ready N i) → (w : ℕ) (replies replies' : List ℕ) → Rests N w replies → Rests N w replies' →
    (b k : ℕ) → b < length N.flows → k < length (flow_at N b).path → due N w replies b k ≤ due N w replies' b k
due-le N ready w replies replies' r r' b k h g =
    responses_rise N ready (arrivals_in N w replies) (arrivals_in N w replies')
    (λ x. le_of_eq (least_settled_unique N (arrivals_in N w replies) (arrivals_in N w replies') r.least r'.least x))
    (flow_at N b) (flow_here_lem N b h) (node_at (flow_at N b) k) (visits_at (flow_at N b).path k g)

module _ (net busies : List ℕ) (valid : Valid (net_in net)) (ready : (i : Flow) → Here (net_in net) i → Ready (net_in net) i) (busy : BusiesAre net busies) where
  abbrev N : Net
  N = net_in net

  abbrev w : ℕ
  w = room_in net

  given_one : (given given' : Result (Unit {0}) PastHorizon) (replies replies' : List ℕ) → SettleIs net busies given replies → SettleIs net busies given' replies' → given ≡ given'
  given_one (Err past) (Err past') replies replies' s s' = refl
  given_one (Err past) (Ok done) replies replies' s s' = absurd (s.outcome valid ready busy (arrivals_in N w replies') (s'.outcome valid ready busy).least.settled)
  given_one (Ok done) (Err past) replies replies' s s' = absurd (s'.outcome valid ready busy (arrivals_in N w replies) (s.outcome valid ready busy).least.settled)
  given_one (Ok done) (Ok done') replies replies' s s' = refl

  -- of flow b at place k, which it has or not
  at_one : (given : Result (Unit {0}) PastHorizon) (replies replies' : List ℕ) → SettleIs net busies given replies → SettleIs net busies given replies' →
      (b k : ℕ) → k < w → held w replies b k ≡ held w replies' b k
  at_one (Err past) replies replies' s s' b k m = s.bare b k m (inl (omega arith)) ∙ sym (s'.bare b k m (inl (omega arith)))
  at_one (Ok done) replies replies' s s' b k m = elim (le_or-lt (count_in net) b) [
    | inl h ↦ s.bare b k m (inl h) ∙ sym (s'.bare b k m (inl h))
    | inr h ↦ elim (le_or-lt (length_in net b) k) [
      | inl g ↦ s.bare b k m (inr g) ∙ sym (s'.bare b k m (inr g))
      | inr g ↦ let r = s.outcome valid ready busy in
          let r' = s'.outcome valid ready busy in
          let on : b < length N.flows = omega (arith, flows_length net) in
          let at : k < length (flow_at N b).path = omega (arith, path_long net b h) in
          omega (
            arith,
            r.responses b k on at,
            r'.responses b k on at,
            due-le N ready w replies replies' r r' b k on at,
            due-le N ready w replies' replies r' r b k on at,
          )
    ]
  ]

  pub settle_one : (given given' : Result (Unit {0}) PastHorizon) (replies replies' : List ℕ) → SettleIs net busies given replies → SettleIs net busies given' replies' →
      (given ≡ given') × ((b k : ℕ) → k < room_in net → held (room_in net) replies b k ≡ held (room_in net) replies' b k)
  settle_one given given' replies replies' s s' =
      let q : given ≡ given' = given_one given given' replies replies' s s' in
      (q, at_one given' replies replies' (rw q at s) s')
