-- Places of flows and nodes, and what arrival bounds are by place. Assumes nothing.
use mathlib.Core.Path.{◌≡◌, refl, sym, ap, ◌∙◌, subst}
use mathlib.Core.Bool.{Bool, true, false}
use mathlib.Core.Logic.{inl, inr}
use mathlib.Core.List.{List, [], ◌∷◌, Memᴰ}
use Prim.Native.Nat.{ℕ, zero, suc, ◌+◌, ◌-◌, ◌*◌, ◌≤◌, ◌<◌}
use native.Mathlib.Omega.{arith}
use native.Mathlib.Nat.{le_refl, mul-le-mul, mul-le-mul_right}
use lib.Dec.{eqb}
use lib.ListN.{length, get_or}
use borrow.Author.Tests.{eq-eqb, eqb-true, eqb-false, ne_eqb}
use Rattle.least.specs.Count.{pick}
use Rattle.least.specs.Lists.{values}
use Rattle.least.specs.Fold.{max_of}
use Rattle.least.proofs.Count.{pick_same, pick_other}
use Rattle.least.proofs.Fold.{false_true, max_at, max_under}
use Rattle.rules.specs.Net.{Hop, Flow, Net}
use Rattle.rules.specs.Formula.{visits, before, arriving, arrivals}
use Rattle.rules.specs.Valid.{RisingNumbers, Valid}
use Rattle.rules.proofs.Path.{visits-cases}
use Rattle.nets.specs.Nets.{few, room_in, no_hop, no_flow, flow_at, position_of}
use Rattle.nets.proofs.Places.{member_at, position_below, position_at}
use Rattle.nets.proofs.Sets.{flow_here_lem, one-flow}
use Rattle.entries.specs.Fields.{arrival_by, place_in, responses_in}
use Rattle.entries.specs.Rows.{arrival_at}

-- where numbers rise, a flow's place is found by its number
pub place_at : (l : List Flow) → RisingNumbers l → (a : ℕ) → a < length l → place_in (get_or l a no_flow).number l ≡ a
unfolding place_in
place_at [] r a h = absurd (omega arith)
place_at (i ∷ l) r zero h = rw (eq-eqb i.number i.number refl)
place_at (i ∷ l) r (suc a) h =
    rw (ne_eqb i.number (get_or l a no_flow).number (λ e. omega (arith, r.0 (get_or l a no_flow) (member_at l a no_flow (omega arith)))))
    (ap suc (place_at l r.1 a (omega arith)))

-- the arrival bounds of a flow of the set
pub arrivals_of : (N : Net) → RisingNumbers N.flows → (R : Flow → ℕ → ℕ) (i : Flow) → Memᴰ i N.flows → (h : ℕ) →
    arrivals N R (i.number, h) ≡ arriving N.lmax (R i) 0 i.path h
unfolding arrivals
arrivals_of N r R i m h = omega (arith, above, max_under one N.flows (arriving N.lmax (R i) 0 i.path h) below)
  where
    one : Flow → ℕ
    one j = pick (eqb j.number i.number) (arriving N.lmax (R j) 0 j.path h) 0

    own : one i ≡ arriving N.lmax (R i) 0 i.path h
    own = rw (eq-eqb i.number i.number refl)

    above : arriving N.lmax (R i) 0 i.path h ≤ max_of one N.flows
    above = omega (arith, own, max_at one m)

    below : (j : Flow) → Memᴰ j N.flows → one j ≤ arriving N.lmax (R i) 0 i.path h
    below j q = go (eqb j.number i.number) refl
      where
        go : (b : Bool) → eqb j.number i.number ≡ b → pick b (arriving N.lmax (R j) 0 j.path h) 0 ≤ arriving N.lmax (R i) 0 i.path h
        go true e = subst (λ k. arriving N.lmax (R j) 0 j.path h ≤ arriving N.lmax (R k) 0 k.path h)
            (one-flow N.flows r j i q m (eqb-true j.number i.number e)) (le_refl _)
        go false e = omega arith

-- by position along the path
arriving_at : (m : ℕ) (R : ℕ → ℕ) (a : ℕ) (l : List Hop) (h : ℕ) → visits l h ≡ true →
    arriving m R a l h ≡ pick (eqb (position_of h l) 0) a (R (get_or l (position_of h l - 1) no_hop).node + m)
unfolding arriving before
arriving_at m R a [] h v = absurd (omega (arith, position_below [] h v))
arriving_at m R a (k ∷ ks) h v = go (eqb k.node h) refl (arriving_at m R (R k.node + m) ks h)
  where
    go : (b : Bool) → eqb k.node h ≡ b →
        (visits ks h ≡ true → arriving m R (R k.node + m) ks h ≡ pick (eqb (position_of h ks) 0) (R k.node + m) (R (get_or ks (position_of h ks - 1) no_hop).node + m)) →
        pick b a (arriving m R (R k.node + m) ks h)
        ≡ pick (eqb (length (pick b [] (k ∷ before h ks))) 0) a (R (get_or (k ∷ ks) (length (pick b [] (k ∷ before h ks)) - 1) no_hop).node + m)
    go true e ih = refl
    go false e ih = elim (visits-cases k ks h v) [
      | inl q ↦ false_true (sym e ∙ eq-eqb k.node h q)
      | inr q ↦ ih q ∙ split (position_of h ks)
    ]
      where
        later : (n : ℕ) → get_or ks (suc n - 1) no_hop ≡ get_or (k ∷ ks) (suc (suc n) - 1) no_hop
        later n = ap (λ j. get_or ks j no_hop) (omega arith) ∙ ap (λ j. get_or (k ∷ ks) j no_hop) (sym (less n))
          where
            less : (n : ℕ) → suc (suc n) - 1 ≡ suc n
            less n = omega arith

        split : (n : ℕ) → pick (eqb n 0) (R k.node + m) (R (get_or ks (n - 1) no_hop).node + m)
            ≡ pick (eqb (suc n) 0) a (R (get_or (k ∷ ks) (suc n - 1) no_hop).node + m)
        split zero = refl
        split (suc n) = rw (ne_eqb (suc n) 0 (λ z. omega arith), ne_eqb (suc (suc n)) 0 (λ z. omega arith)) (ap (λ q. R q.node + m) (later n))

-- S of flow b at a node that it visits
pub arrival_is : (N : Net) → Valid N → (w : ℕ) (r : ℕ → ℕ) (b : ℕ) → b < length N.flows → (h : ℕ) → visits (flow_at N b).path h ≡ true →
    arrivals N (responses_in N w r) ((flow_at N b).number, h) ≡ arrival_by N w r b h (flow_at N b).path
unfolding arrival_by
arrival_is N v w r b on h vis =
    arrivals_of N v.rising (responses_in N w r) j (flow_here_lem N b on) h ∙ arriving_at N.lmax (responses_in N w r j) 0 j.path h vis
    ∙ go (eqb pos 0) refl
  where
    j : Flow
    j = flow_at N b

    pos : ℕ
    pos = position_of h j.path

    node : ℕ
    node = (get_or j.path (pos - 1) no_hop).node

    go : (t : Bool) → eqb pos 0 ≡ t → pick t 0 (responses_in N w r j node + N.lmax) ≡ pick t 0 (N.lmax + r (b * w + pos - 1))
    go true e = refl
    go false e =
        let q : pos ≡ 0 → ⊥ = eqb-false pos 0 e in
        let at : position_of node j.path ≡ pos - 1 =
        position_at j.path (v.flows j (flow_here_lem N b on)).distinct (pos - 1) (omega (arith, position_below j.path h vis)) in
        let place : place_in j.number N.flows * w + position_of node j.path ≡ b * w + pos - 1 =
        omega (arith, ap (λ k. k * w) (place_at N.flows v.rising b on)) in
        omega (arith, ap r place)

-- a place in the response bounds of all flows
pub place_fits : (b w : ℕ) → b ≤ few → w ≤ few → b * w ≤ 3969
place_fits b w h i = mul-le-mul {n₂ = 63} {m₂ = 63} h i

-- the response bound at the place before place q of flow b is there
pub place_inside : (n w b q l : ℕ) → b < n → q ≤ w → (q ≡ 0 → ⊥) → n * w ≤ l → b * w + q - 1 < l
place_inside n w b q l h i z g = omega (arith, mul-le-mul_right {m = b + 1} {n = n} w (omega arith))

module _ (net : List ℕ) (r : ℕ → ℕ) (b q : ℕ) where
  pub arrival_first : q ≡ 0 → 0 ≡ arrival_at net r b q
  unfolding arrival_at
  arrival_first h = pick_same q 0 0 (values net 3 + r (b * room_in net + q - 1)) h

  pub arrival_later : (x y w : ℕ) → (q ≡ 0 → ⊥) → x ≡ values net 3 → w ≡ room_in net → y ≡ r (b * w + q - 1) → x + y ≡ arrival_at net r b q
  unfolding arrival_at
  arrival_later x y w h e f g =
      let z : y ≡ r (b * room_in net + q - 1) = g ∙ ap (λ w. r (b * w + q - 1)) f in
      let s : x + y ≡ values net 3 + r (b * room_in net + q - 1) = omega arith in
      s ∙ pick_other q 0 0 (values net 3 + r (b * room_in net + q - 1)) h
