-- How far a turn looks: the last one looks over all. Assumes nothing.
use mathlib.Core.Path.{◌≡◌}
use Prim.Native.Nat.{ℕ, ◌≤◌}
use borrow.Author.Tests.{le-leb}
use Rattle.rounds.specs.Windows.{reach_in}

pub reach_last : (turns steps busy : ℕ) → turns ≤ 1 → busy ≡ reach_in turns steps busy
reach_last turns steps busy h = rw (le-leb turns 1 h)
