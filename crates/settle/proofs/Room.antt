-- What is lent has room for a flow's sheet and for what is kept of its nodes, and goes on having it. Assumes nothing.
use mathlib.Core.Path.{◌≡◌}
use mathlib.Core.List.{List}
use Prim.Native.Nat.{ℕ, ◌+◌, ◌≤◌, ◌<◌}
use native.Mathlib.Nat.{mul-le-mul_right}
use native.Mathlib.Omega.{arith}
use lib.ListN.{length}
use Rattle.nets.specs.Nets.{count_in, room_in}
use Rattle.blocks.specs.Sheet.{entries_in, Small}
use Rattle.steps.specs.Kept.{kept_size}
use Rattle.starts.specs.Kept.{Strided}
use Rattle.settle.specs.Turns.{Room}

module _ {net busies replies marks sheet slots steps best : List ℕ} (room : Room net busies replies marks sheet slots steps best) where
  pub steps_fit : (e : List ℕ) (m n : ℕ) → m ≤ room_in net → n ≡ count_in net → ((p : ℕ) → p < m → entries_in e p ≤ count_in net) →
      Strided e (kept_size + n) m steps
  steps_fit e m n h is few = record {
    each = λ p q. omega (arith, few p q);
    long = rw is (omega (arith, room.steps_long, mul-le-mul_right {m = m} {n = room_in net} (kept_size + count_in net) h));
    short = room.steps_short;
  }

  pub room_kept : {replies' marks' sheet' slots' steps' best' : List ℕ} → length replies' ≡ length replies → length marks' ≡ length marks →
      length sheet' ≡ length sheet → length slots' ≡ length slots → length steps' ≡ length steps → length best' ≡ length best → Small sheet' → Small slots' →
      Room net busies replies' marks' sheet' slots' steps' best'
  room_kept r m e s t b small small' = record {
    busies_long = room.busies_long;
    replies_long = rw r room.replies_long;
    marks_long = rw m room.marks_long;
    sheet_long = rw e room.sheet_long;
    sheet_short = rw e room.sheet_short;
    sheet_small = small;
    slots_long = rw s room.slots_long;
    slots_small = small';
    steps_long = rw t room.steps_long;
    steps_short = rw t room.steps_short;
    best_long = rw b room.best_long;
  }
