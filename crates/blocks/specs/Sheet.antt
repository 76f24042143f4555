-- A sheet: for each node of a path a block of numbers, from which the sum at that node is worked out. Its first number is the size of a block; a
-- block has what hangs on nothing, what a response bound adds to W, how many entries there are, and the entries.
use Rattle.std.specs.Prelude.{◌≡◌, List, ℕ, ◌+◌, ◌-◌, ◌*◌, ◌≤◌, ◌<◌, eqb, length}
use Rattle.least.specs.Count.{pick, count}
use Rattle.least.specs.Fold.{sum_to}
use Rattle.least.specs.Lists.{values}
use Rattle.least.specs.Starts.{Sums}

abbrev pub head_size : ℕ
head_size = 3

abbrev pub entry_size : ℕ
entry_size = 5

-- how late an instant may be, so that no sum is cut; the horizon is another matter
abbrev pub most_instant : ℕ
most_instant = 262143

-- where a count may look: the starting time sought, the instant, the starting times at the nodes
abbrev pub here_slot : ℕ
here_slot = 0

abbrev pub instant_slot : ℕ
instant_slot = 1

abbrev pub node_slot : ℕ → ℕ
node_slot p = p + 2

abbrev pub block_at : List ℕ → ℕ → ℕ
block_at e p = 1 + p * values e 0

-- what a response bound adds to W − u
abbrev pub added : List ℕ → ℕ → ℕ
added e p = values e (block_at e p + 1)

abbrev pub entries_in : List ℕ → ℕ → ℕ
entries_in e p = values e (block_at e p + 2)

abbrev pub entry_at : List ℕ → ℕ → ℕ → ℕ
entry_at e p q = block_at e p + head_size + q * entry_size

-- the entry at k: count(value + plus − minus, T) × weight
unfoldable pub term_of : List ℕ → (ℕ → ℕ) → ℕ → ℕ
term_of e v k = count (v (values e k) + values e (k + 1)) (values e (k + 2)) (values e (k + 3)) * values e (k + 4)

-- what it adds at the instant u, if it looks at the instant
unfoldable pub instant_term : List ℕ → ℕ → ℕ → ℕ
instant_term e u k = pick (eqb (values e k) instant_slot) (term_of e (λ l. u) k) 0

-- what it adds if it looks elsewhere
unfoldable pub look_term : List ℕ → (ℕ → ℕ) → ℕ → ℕ
look_term e v k = pick (eqb (values e k) instant_slot) 0 (term_of e v k)

-- what of the sum at node p hangs on the instant alone
unfoldable pub instant_sum : List ℕ → ℕ → ℕ → ℕ
instant_sum e p u = values e (block_at e p) + sum_to (entries_in e p) (λ q. instant_term e u (entry_at e p q))

unfoldable pub sheet_sum : List ℕ → ℕ → (ℕ → ℕ) → ℕ
sheet_sum e p v = values e (block_at e p) + sum_to (entries_in e p) (λ q. term_of e v (entry_at e p q))

-- w for the starting time sought, u for the instant, x at the nodes
abbrev pub seen : (ℕ → ℕ) → ℕ → ℕ → ℕ → ℕ
seen x w u k = pick (eqb k here_slot) w (pick (eqb k instant_slot) u (x (k - 2)))

abbrev pub sums : List ℕ → ℕ → Sums ℕ
sums e u p x w = sheet_sum e p (seen x w u)

-- so small that no sum is cut
abbrev pub Small : List ℕ → Type 0
Small l = (k : ℕ) → values l k < 16777216

-- a count at node p looks at p itself, at the instant or at an earlier node
abbrev pub Fit : List ℕ → ℕ → Type 0
Fit e m = (p q : ℕ) → p < m → q < entries_in e p → values e (entry_at e p q) < node_slot p

-- 0 only if every count of node p looks at the instant
abbrev pub Looking : List ℕ → ℕ → ℕ → Type 0
Looking e p n = n ≡ 0 → (q : ℕ) → q < entries_in e p → values e (entry_at e p q) ≡ instant_slot

-- a sheet for a path of m nodes: each block stands in it whole, with so few entries that no sum is cut
pub record Shaped (e : List ℕ) (m : ℕ) : Type 0 where
  pub whole : (p : ℕ) → p < m → entry_at e p (entries_in e p) ≤ length e
  pub few : (p : ℕ) → p < m → entries_in e p ≤ 1024
  pub short : length e ≤ 16777216
  pub small : Small e
  pub looks : Fit e m
