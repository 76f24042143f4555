-- What rises, which flows are marked for it, and which has its turn next.
use Rattle.std.specs.Prelude.{◌≡◌, Bool, true, false, Option, Some, None, List, ℕ, ◌+◌, ◌≤◌, ◌<◌, max}
use Rattle.least.specs.Lists.{values, Inside}
use Rattle.starts.specs.Runs.{Low}
use Rattle.rounds.specs.Reading.{reads_flow}

-- the turns that a flow has once something that it reads has risen
abbrev pub fresh_mark : ℕ
fresh_mark = 4

-- those at m places raised to best, the others as they were; rose tells whether one rose
pub record RaisedIs (replies best : List ℕ) (at m : ℕ) (replies' : List ℕ) (rose : Bool) : Type 0 where
  pub inside : (k : ℕ) → k < m → values replies' (at + k) ≡ max (values replies (at + k)) (values best k)
  pub others : Inside at (at + m) replies replies'
  pub still : rose ≡ false → (k : ℕ) → k < m → values best k ≤ values replies (at + k)
  pub risen : rose ≡ true → (k : ℕ) × (k < m) × (values replies (at + k) < values best k)
  pub low : Low replies'

-- of the flows below n: all turns anew if it reads flow a, otherwise as it was; the others as they were
pub record MarkedIs (marks net : List ℕ) (a n : ℕ) (marks' : List ℕ) : Type 0 where
  pub unread : (b : ℕ) → b < n → reads_flow net b a ≡ false → values marks' b ≡ values marks b
  pub read : (b : ℕ) → b < n → reads_flow net b a ≡ true → values marks' b ≡ fresh_mark
  pub others : Inside 0 n marks marks'

-- among the flows below m: a marked one, or nothing if none is
abbrev pub ChosenIs : List ℕ → ℕ → Option ℕ → Type 0
ChosenIs marks m None = (b : ℕ) → b < m → values marks b ≡ 0
ChosenIs marks m (Some a) = (a < m) × (values marks a ≡ 0 → ⊥)
