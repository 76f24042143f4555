-- A valid set's sums are sound, and a part of a valid set is valid. Assumes nothing.
use mathlib.Core.Path.{refl, ap}
use mathlib.Core.List.{List, [], ◌∷◌, Memᴰ, Sublistᴰ}
use Prim.Native.Nat.{◌≤◌, ◌<◌}
use native.Mathlib.Omega.{arith}
use native.Mathlib.Nat.{lt_of_lt_of_le}
use lib.ListN.{length}
use Rattle.least.proofs.Fold.{mem_sublist}
use Rattle.rules.specs.Net.{Hop, Flow, Net}
use Rattle.rules.specs.Formula.{own_weight}
use Rattle.rules.specs.Meaning.{Here}
use Rattle.rules.specs.Valid.{InRange, RisingNumbers, Valid}
use Rattle.rules.specs.Ready.{Sound}
use Rattle.rules.proofs.Path.{visits_member, slowest_at}

some-hop : (l : List Hop) → 0 < length l → (k : Hop) × Memᴰ k l
some-hop [] h = absurd (omega arith)
some-hop (k ∷ l) h = (k, Memᴰ.head refl)

own_cost : (i : Flow) → InRange i → 0 < own_weight i.path i
unfolding own_weight
own_cost i r =
    let k = some-hop i.path r.nodes in
    lt_of_lt_of_le (r.costs k.0 k.1) (slowest_at i.path k.1 (visits_member k.1))

pub sound : (N : Net) → Valid N → (i : Flow) → Here N i → Sound N i
sound N v i m = record {
  periods = λ j q. (v.flows j q).period;
  period = (v.flows i m).period;
  cost = own_cost i (v.flows i m);
}

pub rising_part : {l m : List Flow} → Sublistᴰ l m → RisingNumbers m → RisingNumbers l
rising_part Sublistᴰ.slnil r = tt
rising_part (Sublistᴰ.cons s) r = rising_part s r.1
rising_part (Sublistᴰ.cons-cons e s) r = (λ j q. omega (arith, ap (λ i. i.number) e, r.0 j (mem_sublist s q)), rising_part s r.1)

pub valid_part : (N N' : Net) → N.lmin ≤ N.lmax → Sublistᴰ N.flows N'.flows → Valid N' → Valid N
valid_part N N' links s v = record { links = links; flows = λ i m. v.flows i (mem_sublist s m); rising = rising_part s v.rising }
