-- What of the ranges the formula needs: no upper ones. RULES, ranges.
use Rattle.std.specs.Prelude.{◌≡◌, false, ◌≤◌, ◌<◌, length}
use mathlib.Core.List.{List, [], ◌∷◌, Memᴰ}
use Rattle.rules.specs.Net.{Hop, Flow, Net}
use Rattle.rules.specs.Formula.{visits}

-- no node twice
abbrev pub Distinct : List Hop → Type 0
Distinct [] = Unit {0}
Distinct (k ∷ l) = (visits l k.node ≡ false) × Distinct l

pub record InRange (i : Flow) : Type 0 where
  pub period : 0 < i.period
  pub nodes : 0 < length i.path
  pub distinct : Distinct i.path
  pub costs : (k : Hop) → Memᴰ k i.path → 0 < k.cost

-- each number below all those after it
abbrev pub RisingNumbers : List Flow → Type 0
RisingNumbers [] = Unit {0}
RisingNumbers (i ∷ l) = ((j : Flow) → Memᴰ j l → i.number < j.number) × RisingNumbers l

pub record Valid (N : Net) : Type 0 where
  pub links : N.lmin ≤ N.lmax
  pub flows : (i : Flow) → Memᴰ i N.flows → InRange i
  pub rising : RisingNumbers N.flows
