-- A sheet while it is filled: blocks of one size, one for each place of a path. What entries there are, and that one is there more.
use Rattle.std.specs.Prelude.{◌≡◌, List, ◌++◌, ℕ, ◌+◌, ◌*◌, ◌≤◌, ◌<◌, length, get_or}
use Rattle.least.specs.Lists.{values}
use Rattle.blocks.specs.Sheet.{head_size, entry_size, block_at, added, entries_in, entry_at, Small, Fit}

pub record Entry : Type 0 where
  pub look : ℕ
  pub plus : ℕ
  pub less : ℕ
  pub period : ℕ
  pub weight : ℕ

abbrev pub no_entry : Entry
no_entry = record { look = 0; plus = 0; less = 0; period = 0; weight = 0 }

-- an entry stands at k
pub record EntryIs (e : List ℕ) (k : ℕ) (x : Entry) : Type 0 where
  pub look : values e k ≡ x.look
  pub plus : values e (k + 1) ≡ x.plus
  pub less : values e (k + 2) ≡ x.less
  pub period : values e (k + 3) ≡ x.period
  pub weight : values e (k + 4) ≡ x.weight

-- block p has these entries
pub record Listed (e : List ℕ) (p : ℕ) (l : List Entry) : Type 0 where
  pub count : entries_in e p ≡ length l
  pub each : (q : ℕ) → q < length l → EntryIs e (entry_at e p q) (get_or l q no_entry)

-- a head, and room for n entries
abbrev pub block_size : ℕ → ℕ
block_size n = head_size + entry_size * n

-- m blocks
pub record Frame (n m : ℕ) (e : List ℕ) : Type 0 where
  pub size : values e 0 ≡ block_size n
  pub long : 1 + m * block_size n ≤ length e
  pub small : Small e
  pub looks : Fit e m

-- where block p begins
abbrev pub begin_of : ℕ → ℕ → ℕ
begin_of n p = 1 + p * block_size n

-- one entry more in block p
pub record Appended (n p : ℕ) (x : Entry) (e e' : List ℕ) : Type 0 where
  pub count : values e' (begin_of n p + 2) ≡ values e (begin_of n p + 2) + 1
  pub entry : EntryIs e' (begin_of n p + 3 + 5 * values e (begin_of n p + 2)) x
  pub kept : (j : ℕ) → (j ≡ begin_of n p + 2 → ⊥) →
      (begin_of n p + 3 + 5 * values e (begin_of n p + 2) ≤ j → j < begin_of n p + 8 + 5 * values e (begin_of n p + 2) → ⊥) → values e' j ≡ values e j
  pub small : Small e'

abbrev pub entry_from : ℕ → ℕ → ℕ → ℕ → ℕ → Entry
entry_from look plus less period weight = record { look = look; plus = plus; less = less; period = period; weight = weight }

-- block p has entries more, at most one; which, is said where Q holds
pub record GrownAt (Q : Type 0) (p : ℕ) (x : List Entry) (e e' : List ℕ) : Type 0 where
  pub few : entries_in e' p ≤ entries_in e p + 1
  pub base : values e' (block_at e' p) ≡ values e (block_at e p)
  pub added : added e' p ≡ added e p
  pub entries : Q → (l : List Entry) → Listed e p l → Listed e' p (l ++ x)

-- each block has
pub record Grown (Q : Type 0) (n m : ℕ) (x : ℕ → List Entry) (e e' : List ℕ) : Type 0 where
  pub frame : Frame n m e'
  pub blocks : (p : ℕ) → p < m → GrownAt Q p (x p) e e'

-- m blocks, each with room for one entry more
pub record Roomy (n m : ℕ) (e : List ℕ) : Type 0 where
  pub frame : Frame n m e
  pub room : (p : ℕ) → p < m → entries_in e p < n
