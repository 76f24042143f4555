-- What the inner contracts ask of a flow and of arrival bounds.
use Rattle.std.specs.Prelude.{◌≡◌, ℕ, ◌≤◌, ◌<◌}
use mathlib.Core.List.{Memᴰ}
use Rattle.rules.specs.Net.{Flow, Net}
use Rattle.rules.specs.Formula.{horizon, Higher, Equal, role, Crossing, crossings, Arrivals, weight, own_weight, arrivals}
use Rattle.rules.specs.Judge.{busy_length, response}

-- what of the ranges the sums of i need
pub record Sound (N : Net) (i : Flow) : Type 0 where
  pub periods : (j : Flow) → Memᴰ j N.flows → 0 < j.period
  pub period : 0 < i.period
  pub cost : 0 < own_weight i.path i

-- and a busy length
pub record Ready (N : Net) (i : Flow) : Type 0 where
  pub sound : Sound N i
  pub busy : busy_length N i ≤ horizon

-- the arrival bounds that the arrival bounds S lead to; settled bounds lead to themselves
abbrev pub next : Net → Arrivals → Arrivals
next N S = arrivals N (λ i. response N i S)

-- S and S' agree on what i reads
pub record Agree (N : Net) (i : Flow) (S S' : Arrivals) : Type 0 where
  pub higher : (j : Crossing) → Memᴰ j (crossings N i) → 0 < weight i.path j → role i j.flow ≡ Higher → (h : ℕ) → S (j.flow.number, h) ≡ S' (j.flow.number, h)
  pub equal : (j : Crossing) → Memᴰ j (crossings N i) → 0 < weight i.path j → role i j.flow ≡ Equal → (h : ℕ) → S (j.flow.number, h) ≡ S' (j.flow.number, h)
  pub own : (j : Crossing) → Memᴰ j (crossings N i) → 0 < weight i.path j → role i j.flow ≡ Equal → (h : ℕ) → S (i.number, h) ≡ S' (i.number, h)
