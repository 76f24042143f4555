-- How far a turn looks, and how many are left after it.
use Rattle.std.specs.Prelude.{◌≡◌, Bool, true, false, ℕ, ◌+◌, ◌-◌, ◌*◌, ◌/◌, ◌≤◌, ◌<◌, eqb, leb}
use Rattle.least.specs.Count.{pick}
use Rattle.rounds.specs.Rounds.{fresh_mark}

-- with so few steps, every turn is a full scan
abbrev pub few_steps : ℕ
few_steps = 64

-- how many steps to each side of its peaks a flow is looked at, with that many turns left
abbrev pub near_steps : ℕ → ℕ
near_steps turns = pick (eqb turns 2) 1024 (pick (eqb turns 3) 64 4)

-- so many steps in ticks, in a busy length with that many; the whole of it, if they are few, or with the last turn
abbrev pub reach_in : ℕ → ℕ → ℕ → ℕ
reach_in turns steps busy = pick (leb turns 1) busy (pick (leb steps few_steps) busy (near_steps turns * (1 + busy / steps)))

-- the turns left after one that looked so far: none if that was all; otherwise one less, or all anew where something rose
pub record TurnsLeft (turns : ℕ) (rose : Bool) (far busy t : ℕ) : Type 0 where
  pub none : busy ≤ far → t ≡ 0
  pub less : far < busy → rose ≡ false → t ≡ turns - 1
  pub anew : far < busy → rose ≡ true → t ≡ fresh_mark
