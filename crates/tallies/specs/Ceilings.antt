-- Where a response bound may rise: the bounds so far are ceilings for the starting times.
use Rattle.std.specs.Prelude.{List, ℕ, ◌+◌, ◌-◌, ◌≤◌, ◌<◌}
use Rattle.least.specs.Lists.{values}
use Rattle.blocks.specs.Sheet.{added, sheet_sum, seen}

-- the greatest starting time at node p with which its bound does not rise at the instant u
abbrev pub ceiling : List ℕ → List ℕ → ℕ → ℕ → ℕ
ceiling e best u p = values best p + u - added e p

-- what a count at node p looks at, with the ceilings for starting times
abbrev pub ceilings : List ℕ → List ℕ → ℕ → ℕ → ℕ → ℕ
ceilings e best p u = seen (ceiling e best u) (ceiling e best u p) u

unfoldable pub ceiling_sum : List ℕ → List ℕ → ℕ → ℕ → ℕ
ceiling_sum e best p u = sheet_sum e p (ceilings e best p u)

-- the sum at node p with the ceilings is not above its own, or it is
abbrev pub Calm : List ℕ → List ℕ → ℕ → ℕ → Type 0
Calm e best p u = ceiling_sum e best p u + added e p ≤ values best p + u

abbrev pub Above : List ℕ → List ℕ → ℕ → ℕ → Type 0
Above e best p u = values best p + u < ceiling_sum e best p u + added e p

-- that many ticks from an instant on are calm at node p, of n; the next is not
pub record CalmAt (e best : List ℕ) (p from n r : ℕ) : Type 0 where
  pub most : r ≤ n
  pub calm : (i : ℕ) → i < r → Calm e best p (from + i)
  pub above : r < n → Above e best p (from + r)

-- the same of the first m nodes together
pub record CalmTo (e best : List ℕ) (m from n r : ℕ) : Type 0 where
  pub most : r ≤ n
  pub calm : (p i : ℕ) → p < m → i < r → Calm e best p (from + i)
  pub above : r < n → (p : ℕ) × (p < m) × Above e best p (from + r)

-- r is the first instant from there on at which one of the first m nodes is above its ceiling; the end, if there is none
pub record NextAbove (e best : List ℕ) (m from end r : ℕ) : Type 0 where
  pub later : from ≤ r
  pub most : r ≤ end
  pub calm : (p u : ℕ) → p < m → from ≤ u → u < r → Calm e best p u
  pub above : r < end → (p : ℕ) × (p < m) × Above e best p r
