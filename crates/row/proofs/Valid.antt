-- A set that a plan can list is a valid set of the rules; the empty one.
use Prim.Native.Nat.{ℕ, ◌<◌}
use mathlib.Core.Path.{◌≡◌}
use mathlib.Core.List.Memᴰ
use mathlib.Core.List.{List, [], ◌∷◌, map, Memᴰ}
use mathlib.Core.Logic.{⊎_elim}
use native.Mathlib.Omega.{arith}
use Rattle.rules.specs.Net as net
use Rattle.rules.specs.Valid.{InRange, RisingNumbers, Valid}
use Rattle.flows.specs.declared.Flow.{Flow}
use Rattle.flows.specs.Lists.{flow_of, net_from}
use Rattle.flows.specs.WellFormed.{DelaysFit, WellFormed, Each, each_none, each_more, Typed}
use Rattle.row.specs.Rows.{Rising, rising_none, rising-more}
use Rattle.row.specs.Sets.{Readable}
use Rattle.flows.proofs.Passed.{formula_range}

above : {n : ℕ} {j : net.Flow} (fs : List Flow) → Rising n fs → Memᴰ j (map flow_of fs) → n < j.number
above [] r m = absurd (Memᴰ.not-nil m)
above {n} {j} (f ∷ fs) (rising-more h r) m =
    ⊎_elim (λ (e : j ≡ flow_of f). rw e h) (λ (i : Memᴰ j (map flow_of fs)). let l = above fs r i in omega arith) (Memᴰ.cases_cons m)

rising_numbers : {n : ℕ} (fs : List Flow) → Rising n fs → RisingNumbers (map flow_of fs)
rising_numbers [] r = tt
rising_numbers (f ∷ fs) (rising-more h r) = (λ j m. above fs r m, rising_numbers fs r)

in_range : (fs : List Flow) → Each WellFormed fs → Each Typed fs → (i : net.Flow) → Memᴰ i (map flow_of fs) → InRange i
in_range [] c t i m = absurd (Memᴰ.not-nil m)
in_range (f ∷ fs) (each_more e c) (each_more u t) i m =
    ⊎_elim (λ (q : i ≡ flow_of f). rw q (formula_range f u e))
    (λ (k : Memᴰ i (map flow_of fs)). in_range fs c t i k)
    (Memᴰ.cases_cons m)

module _ (lmin lmax : ℕ) where
  pub readable_valid : (fs : List Flow) → Readable lmin lmax fs → Valid (net_from lmin lmax fs)
  readable_valid fs s = record {
    links = s.delays.0;
    flows = in_range fs s.flows s.typed;
    rising = rising_numbers fs s.rising;
  }

  pub readable_none : DelaysFit lmin lmax → Readable lmin lmax []
  readable_none h = record { delays = h; rising = rising_none; count = omega arith; flows = each_none; typed = each_none }
