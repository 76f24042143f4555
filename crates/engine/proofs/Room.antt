-- The arrays that a row's judgement lends have room. Assumes nothing.
use mathlib.Core.Path.{◌≡◌, refl, sym, subst}
use mathlib.Core.List.{List}
use Prim.Native.Nat.{ℕ, zero, suc, ◌+◌, ◌*◌, ◌≤◌}
use native.Mathlib.Omega.{arith}
use native.Mathlib.Nat.{mul-le-mul}
use lib.ListN.{replicate}
use Rattle.least.specs.Lists.{values}
use Rattle.flows.specs.Lists.{most_flows, most_nodes}
use Rattle.nets.specs.Nets.{Whole, count_in, room_in}
use Rattle.crossings.specs.Pairs.{pair_size}
use Rattle.settle.specs.Turns.{Room}

zeros : (n k : ℕ) → values (replicate n 0) k ≡ 0
zeros zero k = refl
zeros (suc n) zero = refl
zeros (suc n) (suc k) = zeros n k

sizes : (n w : ℕ) → n ≤ most_flows → most_nodes ≡ w →
    (n * n * (w + 3) ≤ 2816) × (n * w * 3 ≤ 384) × (n * w ≤ 128) × (1 + w * (3 + 5 * n) ≤ 665) × (w * (3 + n) ≤ 152)
sizes n w h e = subst (λ v. (n * n * (v + 3) ≤ 2816) × (n * v * 3 ≤ 384) × (n * v ≤ 128) × (1 + v * (3 + 5 * n) ≤ 665) × (v * (3 + n) ≤ 152)) e
    (omega (arith, mul-le-mul {n₁ = n} {m₁ = n} {n₂ = 16} {m₂ = 16} h h), omega arith, omega arith, omega arith, omega arith)

pub room_enough : (net : List ℕ) → count_in net ≤ most_flows → room_in net ≡ most_nodes → Whole net →
    Whole net × (count_in net * count_in net * pair_size net ≤ 2816) × (count_in net * room_in net * 3 ≤ 384) ×
    Room net (replicate 16 0) (replicate 128 0) (replicate 144 0) (replicate 665 0) (replicate 10 0) (replicate 152 0) (replicate 16 0)
room_enough net few room whole =
    let s = sizes (count_in net) (room_in net) few (sym room) in (
      whole,
      s.0,
      s.1,
      record {
        busies_long = few;
        replies_long = s.2;
        marks_long = omega (arith, s.2);
        sheet_long = s.3;
        sheet_short = omega arith;
        sheet_small = λ k. omega (arith, zeros 665 k);
        slots_long = omega arith;
        slots_small = λ k. omega (arith, zeros 10 k);
        steps_long = s.4;
        steps_short = omega arith;
        best_long = omega arith;
      },
    )
