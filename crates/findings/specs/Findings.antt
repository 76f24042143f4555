-- What stands against a set: which of refusals 7 to 9, by the place of the flow at fault; or nothing.
use Rattle.std.specs.Prelude.{◌≡◌, Bool, true, false, Option, Some, None, Result, Ok, Err, List, ℕ, ◌<◌, ltb}
use Rattle.least.specs.Lists.{values}
use Rattle.rules.specs.Valid.{Valid}
use Rattle.rules.specs.Judge.{misplaced}
use Rattle.nets.specs.Nets.{count_in, flow_in, net_in}
use Rattle.starts.specs.declared.PastHorizon.{PastHorizon}
use Rattle.starts.specs.Runs.{most_time}
use Rattle.settle.specs.Turns.{BusiesAre, SettleIs}
use Rattle.findings.specs.declared.Finding.{Finding}
use Rattle.findings.specs.declared.Finding.TheVariants.{Misplaced, Overloaded, Past}

-- none of n fails a test
abbrev pub Clear : (ℕ → Bool) → ℕ → Type 0
Clear p n = (k : ℕ) → k < n → p k ≡ false

-- one does, and k is the first
pub record FirstAt (p : ℕ → Bool) (n k : ℕ) : Type 0 where
  pub within : k < n
  pub before : Clear p k
  pub fails : p k ≡ true

-- the first below n that fails a test, or nothing if none does
abbrev pub FirstIs : (ℕ → Bool) → ℕ → Option ℕ → Type 0
FirstIs p n None = Clear p n
FirstIs p n (Some k) = FirstAt p n k

abbrev pub crossed : List ℕ → ℕ → Bool
crossed net k = misplaced (net_in net) (flow_in net k)

abbrev pub overloaded : List ℕ → ℕ → Bool
overloaded busies k = ltb most_time (values busies k)

-- the busy lengths, none of them past the horizon, and what settling found
pub record Outcome (net busies : List ℕ) (given : Result (Unit {0}) PastHorizon) (replies : List ℕ) : Type 0 where
  pub light : Clear (overloaded busies) (count_in net)
  pub busies_are : Valid (net_in net) → BusiesAre net busies
  pub settled : SettleIs net busies given replies

pub record Heavy (net busies : List ℕ) (k : ℕ) : Type 0 where
  pub heavy : FirstAt (overloaded busies) (count_in net) k
  pub busies_are : Valid (net_in net) → BusiesAre net busies

abbrev pub FindingIs : List ℕ → List ℕ → List ℕ → Result (Unit {0}) Finding → Type 0
FindingIs net busies replies (Err (Misplaced k)) = FirstAt (crossed net) (count_in net) k
FindingIs net busies replies (Err (Overloaded k)) = Clear (crossed net) (count_in net) × Heavy net busies k
FindingIs net busies replies (Err Past) = Clear (crossed net) (count_in net) × Outcome net busies (Err (record {})) replies
FindingIs net busies replies (Ok done) = Clear (crossed net) (count_in net) × Outcome net busies (Ok tt) replies
