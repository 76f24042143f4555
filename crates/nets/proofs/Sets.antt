-- The flows of a set, by place and by number. Assumes nothing.
use mathlib.Core.Path.{◌≡◌, refl, sym, ap, ◌∙◌}
use mathlib.Core.Bool.{Bool, true, false}
use mathlib.Core.List.{List, [], ◌∷◌, Memᴰ}
use Prim.Native.Nat.{ℕ, zero, suc, ◌<◌}
use native.Mathlib.Omega.{arith}
use lib.Dec.{ltb, eqb}
use lib.ListN.{length, get_or}
use borrow.Author.Tests.{eq-eqb, eqb-true}
use Rattle.least.specs.Count.{pick}
use Rattle.least.proofs.Ranges.{listed_member}
use Rattle.rules.specs.Net.{Flow, Net}
use Rattle.rules.specs.Formula.{Own, Higher, Equal, Lower, role}
use Rattle.rules.specs.Valid.{Distinct, RisingNumbers, Valid}
use Rattle.nets.specs.Nets.{count_in, path_in, flow_in, flows_in, net_in, no_flow, flow_at}
use Rattle.nets.proofs.Places.{member_at}

-- the flow at a place is one of the set
pub flow_here_lem : (N : Net) (a : ℕ) → a < length N.flows → Memᴰ (flow_at N a) N.flows
flow_here_lem N a h = member_at N.flows a no_flow h

module _ (net : List ℕ) where
  pub flow_in_lem : (a : ℕ) → a < count_in net → Memᴰ (flow_in net a) (flows_in net)
  unfolding flows_in
  flow_in_lem a h = listed_member (flow_in net) (count_in net) a h

  -- no node is twice on a path of a valid set
  pub distinct_in : Valid (net_in net) → (a : ℕ) → a < count_in net → Distinct (path_in net a)
  distinct_in v a h = (v.flows (flow_in net a) (flow_in_lem a h)).distinct

-- where numbers rise, one number is one place, and one flow
pub one_place : (l : List Flow) → RisingNumbers l → (a b : ℕ) → a < length l → b < length l →
    (get_or l a no_flow).number ≡ (get_or l b no_flow).number → a ≡ b
one_place [] r a b p q e = absurd (omega arith)
one_place (i ∷ l) r zero zero p q e = refl
one_place (i ∷ l) r zero (suc b) p q e = absurd (omega (arith, r.0 (get_or l b no_flow) (member_at l b no_flow (omega arith))))
one_place (i ∷ l) r (suc a) zero p q e = absurd (omega (arith, r.0 (get_or l a no_flow) (member_at l a no_flow (omega arith))))
one_place (i ∷ l) r (suc a) (suc b) p q e = ap suc (one_place l r.1 a b (omega arith) (omega arith) e)

pub one-flow : (l : List Flow) → RisingNumbers l → (i j : Flow) → Memᴰ i l → Memᴰ j l → i.number ≡ j.number → i ≡ j
one-flow [] r i j x4 _ e = elim x4 [ ]
one-flow (k ∷ l) r i j (Memᴰ.head p) (Memᴰ.head q) e = p ∙ sym q
one-flow (k ∷ l) r i j (Memᴰ.head p) (Memᴰ.tail q) e = absurd (omega (arith, ap (λ f. f.number) p, r.0 j q))
one-flow (k ∷ l) r i j (Memᴰ.tail p) (Memᴰ.head q) e = absurd (omega (arith, ap (λ f. f.number) q, r.0 i p))
one-flow (k ∷ l) r i j (Memᴰ.tail p) (Memᴰ.tail q) e = one-flow l r.1 i j p q e

-- a flow is its own by its number alone
pub own-role : (i j : Flow) → i.number ≡ j.number → role i j ≡ Own
unfolding role
own-role i j e = rw (eq-eqb i.number j.number e)

pub own_number : (i j : Flow) → role i j ≡ Own → i.number ≡ j.number
unfolding role
own_number i j e = go (eqb i.number j.number) refl (ltb i.priority j.priority) (eqb i.priority j.priority) e
  where
    go : (s : Bool) → eqb i.number j.number ≡ s → (t v : Bool) → pick s Own (pick t Higher (pick v Equal Lower)) ≡ Own → i.number ≡ j.number
    go true q t v o = eqb-true i.number j.number q
    go false q true v o = cc
    go false q false true o = cc
    go false q false false o = cc
