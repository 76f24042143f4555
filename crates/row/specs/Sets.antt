-- The sets that a plan can list, among them every set that a table holds; what lets a flow into one, and which of refusals 2 to 6 is given, exactly when.
use Rattle.std.specs.Prelude.{ℕ, ◌<◌, ◌≤◌, ◌≡◌, List, length, Err}
use Rattle.flows.specs.declared.Flow.{Flow}
use Rattle.flows.specs.declared.Cause.TheVariants.{Present, Full}
use Rattle.flows.specs.Refusals.{Ruling, accepted}
use Rattle.flows.specs.WellFormed.{DelaysFit, WellFormed, OfFlow, Each, Typed}
use Rattle.row.specs.Rows.{Rising}

-- well formed one by one, numbers rising, and at most sixteen flows; whether the set is accepted by 7 to 10 does not matter
pub record Readable (lmin lmax : ℕ) (fs : List Flow) : Type 0 where
  pub delays : DelaysFit lmin lmax
  pub rising : Rising 0 fs
  pub count : length fs ≤ 16
  pub flows : Each WellFormed fs
  pub typed : Each Typed fs

-- no flow of that number
abbrev pub Lacks : ℕ → List Flow → Type 0
Lacks number fs = Each (λ f. f.number ≡ number → ⊥) fs

-- a well-formed flow, its number unused, and room left
pub record Enters (fs : List Flow) (f : Flow) : Type 0 where
  pub flow : WellFormed f
  pub lacks : Lacks f.number fs
  pub room : length fs < 16

-- the lowest refusal from 2 to 6 that applies
pub data OfEntry (fs : List Flow) (f : Flow) : Ruling → Type 0 where
  by_itself : (c : Ruling) → (c ≡ accepted → ⊥) → OfFlow f c → OfEntry fs f c
  number_taken : WellFormed f → (Lacks f.number fs → ⊥) → OfEntry fs f (Err Present)
  no_room : WellFormed f → Lacks f.number fs → 16 ≤ length fs → OfEntry fs f (Err Full)
  let_in : Enters fs f → OfEntry fs f accepted
