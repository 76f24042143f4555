-- The busy length is climbed to from 0, a tick or more at a time, so that the rules' count of steps is never used up. Assumes nothing.
use mathlib.Core.Path.{◌≡◌, refl, sym, ap, ◌∙◌}
use mathlib.Core.List.{List}
use Prim.Native.Nat.{ℕ, zero, suc, ◌+◌, ◌*◌, ◌≤◌, ◌<◌, max, min}
use native.Mathlib.Omega.{arith}
use Rattle.least.specs.Count.{ceil}
use Rattle.least.specs.Fixed.{climb, cap, floored}
use Rattle.least.specs.Lists.{values}
use Rattle.least.proofs.Fixed.{climb_stop, climb_go, climb_same}
use Rattle.least.proofs.Fold.{sum_to_ext}
use Rattle.rules.specs.Formula.{horizon, load}
use Rattle.rules.specs.Judge.{busy_length}
use Rattle.rules.specs.Valid.{Valid}
use Rattle.nets.specs.Nets.{count_in, field_in, flow_in, net_in}
use Rattle.loads.specs.Load.{weight_in, Weighed, load_by, next_length}
use Rattle.loads.proofs.Whole.{load_whole}

-- at x, with steps enough left to come to e
pub record Climbs (f : ℕ → ℕ) (x : ℕ) : Type 0 where
  pub steps : ℕ
  pub left : climb f steps x ≡ climb f 65537 0
  pub enough : 65537 ≤ x + steps

module _ (net weights : List ℕ) where
  abbrev next : ℕ → ℕ
  next = next_length net (values weights)

  pub climbs_start : Climbs next 0
  climbs_start = record { steps = 65537; left = refl; enough = omega arith }

  -- y is the next length as the code works it out
  pub climbs_on : (x : ℕ) → Climbs next x → (s y : ℕ) → s ≡ load_by net (values weights) x → y ≡ max 1 (min s 65536) →
      x < 65536 → x < y → Climbs next y
  climbs_on x inv s y p e l h = go inv.steps inv.left inv.enough
    where
      go : (m : ℕ) → climb next m x ≡ climb next 65537 0 → 65537 ≤ x + m → Climbs next y
      go zero u v = absurd (omega arith)
      go (suc m) u v = record {
        steps = m;
        left = ap (climb next m) (omega arith) ∙ sym (climb_go next m x (omega arith)) ∙ u;
        enough = omega arith;
      }

  module _ (a : ℕ) (on : a < count_in net) (w : Weighed net weights a (count_in net)) where
    weighed : (x : ℕ) → load_by net (values weights) x ≡ load_by net (weight_in net a) x
    unfolding load_by
    weighed x = sum_to_ext (count_in net) _ _ (λ b h. ap (λ c. ceil x (field_in net b 2) * c) (w.are b h))

    busy-whole : Valid (net_in net) → climb next 65537 0 ≡ busy_length (net_in net) (flow_in net a)
    unfolding busy_length horizon
    busy-whole v =
        climb_same next (cap 65535 (floored 1 (load (net_in net) (flow_in net a))))
        (λ x. ap (λ y. min 65536 (max 1 y)) (weighed x ∙ load_whole net a on v x)) 65537 0

    pub climbs_rest : (x : ℕ) → Climbs next x → (s y : ℕ) → s ≡ load_by net (values weights) x → y ≡ max 1 (min s 65536) →
        y ≤ x → Valid (net_in net) → x ≡ busy_length (net_in net) (flow_in net a)
    climbs_rest x inv s y p e h v = sym (climb_stop next inv.steps x (omega arith)) ∙ inv.left ∙ busy-whole v

    pub climbs_past : (x : ℕ) → Climbs next x → 65536 ≤ x → Valid (net_in net) → x ≡ busy_length (net_in net) (flow_in net a)
    climbs_past x inv h = climbs_rest x inv _ _ refl refl (omega arith)
