-- The next instant at which something of a block steps up, whatever the starting times.
use Rattle.std.specs.Prelude.{List, ℕ, ◌+◌, ◌-◌, ◌/◌, eqb}
use Rattle.least.specs.Count.{pick, count}
use Rattle.least.specs.Fold.{sum_to}
use Rattle.least.specs.Lists.{values}
use Rattle.least.specs.Steps.{Step}
use Rattle.blocks.specs.Sheet.{instant_slot, entries_in, entry_at, instant_term, instant_sum}

-- the count of the entry at k
abbrev pub CountStep : List ℕ → ℕ → ℕ → ℕ → ℕ → Type 0
CountStep e k u end r = Step (λ v. count (v + values e (k + 1)) (values e (k + 2)) (values e (k + 3))) u end r

-- what it adds
abbrev pub EntryStep : List ℕ → ℕ → ℕ → ℕ → ℕ → Type 0
EntryStep e k u end r = Step (λ v. instant_term e v k) u end r

-- the sum at node p
abbrev pub NodeStep : List ℕ → ℕ → ℕ → ℕ → ℕ → Type 0
NodeStep e p u end r = Step (instant_sum e p) u end r

-- the packets in x ticks of the entry at k, if it looks at the instant
unfoldable pub packets_at : List ℕ → ℕ → ℕ → ℕ
packets_at e x k = pick (eqb (values e k) instant_slot) (x / values e (k + 3)) 0

-- about how many steps a walk over x ticks has: the packets of the entries at the last of m nodes
unfoldable pub steps_in : List ℕ → ℕ → ℕ → ℕ
steps_in e m x = pick (eqb m 0) 0 (sum_to (entries_in e (m - 1)) (λ q. packets_at e x (entry_at e (m - 1) q)))
