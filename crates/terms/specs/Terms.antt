-- What of the formula hangs on no arrival bound, in the rules' words.
use Rattle.std.specs.Prelude.{List, ℕ, ◌+◌, ◌-◌, take}
use Rattle.least.specs.Fold.{sum_of}
use Rattle.rules.specs.Net.{Hop, Flow, Net}
use Rattle.rules.specs.Formula.{least, least_cost, cost_at, slowest, term4, term5, term6}

-- what hangs on nothing, at node h with the prefix P: terms 4, 5 and 6, and i's first packet less C
unfoldable pub base_of : Net → Flow → List Hop → ℕ → ℕ
base_of N i P h = term4 N i P + term5 N i P + term6 N P + slowest P i.path - cost_at i.path h

-- Smin and M at the node behind the first k
abbrev pub smin_to : Net → Flow → ℕ → ℕ
smin_to N j k = sum_of (λ h. least h + N.lmin) (take k j.path)

abbrev pub way_to : Net → Flow → ℕ → ℕ
way_to N i k = sum_of (λ h. N.lmin + least_cost N i h) (take k i.path)
