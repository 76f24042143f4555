-- What each call promises of a table that calls made: RULES, demands, in the demands' words. The equations that callers use stand in Calls.
use Rattle.std.specs.Prelude.{ℕ, ◌≤◌, ◌<◌, ◌≡◌, ◌⊎◌, Ok, Err}
use mathlib.Core.List.{Memᴰ}
use Rattle.rules.specs.Net as net
use Rattle.rules.specs.Formula.{Arrivals}
use Rattle.rules.specs.Meaning.{Here, IsBusy, IsBound, IsFigures, Settled, LeastSettled, Permitted, Judged}
use Rattle.flows.specs.declared.Flow.{Flow}
use Rattle.flows.specs.declared.Figures.{Figures}
use Rattle.flows.specs.declared.Table.{Table}
use Rattle.flows.specs.declared.Answer.{Answer}
use Rattle.flows.specs.declared.Cause.TheVariants.{Absent}
use Rattle.flows.specs.Refusals.{Ruling, number_of, flow_named, accepted, cause_in, place_in}
use Rattle.flows.specs.Lists.{held, flow_of, figures_of, net_from, table_net}
use Rattle.flows.specs.WellFormed.{Exactly, Exact, OfDelays}
use Rattle.row.specs.Rows.{insert_sorted}
use Rattle.row.specs.Sets.{Enters, OfEntry}
use Rattle.engine.specs.Verdicts.{ruling_of, verdict_from}
use Rattle.table.specs.Calls.{Asked, answered, admitted, asked_for}
use Rattle.table.specs.Made.{Made}

abbrev pub Present : Table → Flow → Type 0
Present t f = Memᴰ f (held t.row)

abbrev pub Unused : Table → ℕ → Type 0
Unused t number = (f : Flow) → Present t f → f.number ≡ number → ⊥

-- ---- tables
-- what asking for a flow gave: demand 2's figures, the bound within the deadline
pub record Stored (t : Table) (S : Arrivals) (f : Flow) (asked : Asked) : Type 0 where
  pub shown : Figures
  pub asking : asked ≡ Ok shown
  pub right : IsFigures (table_net t) S (flow_of f) (figures_of shown)
  pub timely : shown.bound ≤ f.deadline

-- the same arrival bounds for all, those of the flows that are there now
pub record Figured (t : Table) : Type 0 where
  pub arrivals : Arrivals
  pub least : LeastSettled (table_net t) arrivals
  pub stored : (f : Flow) → Present t f → Stored t arrivals f (asked_for t f.number)

-- the same link delays, and the same flows in whatever order
pub record SameSet (N N' : net.Net) : Type 0 where
  pub lmin : N.lmin ≡ N'.lmin
  pub lmax : N.lmax ≡ N'.lmax
  pub flows : (i : net.Flow) → Exactly (Here N i) (Here N' i)

-- calls make it, its figures are right, and no other table that calls make has this set
pub record Sound (t : Table) : Type 0 where
  pub made : Made t
  pub figured : Figured t
  pub only : (u : Table) → Made u → SameSet (table_net t) (table_net u) → t ≡ u

abbrev pub SameLinks : Table → Table → Type 0
SameLinks t u = (t.lmin ≡ u.lmin) × (t.lmax ≡ u.lmax)

-- ---- a fresh table
pub record Freshly (lmin lmax : ℕ) (r : Answer) : Type 0 where
  pub cause : Exact (cause_in r.outcome) (OfDelays lmin lmax)
  pub place : place_in r.outcome ≡ 0
  pub empty : (f : Flow) → Present r.table f → ⊥
  pub accepted : cause_in r.outcome ≡ Ok tt → (r.table.lmin ≡ lmin) × (r.table.lmax ≡ lmax)
  pub refused : (cause_in r.outcome ≡ Ok tt → ⊥) → (r.table.lmin ≡ 0) × (r.table.lmax ≡ 0)
  pub sound : Sound r.table

-- ---- admission
-- the set that a flow makes with those of a table, in the same network
abbrev pub enlarged_net : Table → Flow → net.Net
enlarged_net t f = net_from t.lmin t.lmax (insert_sorted f (held t.row))

abbrev pub CrossingPermitted : net.Net → Type 0
CrossingPermitted N = (i : net.Flow) → Here N i → Permitted N i

-- a flow without a busy length, or no settled arrival bounds within the horizon, or a bound past a deadline
pub data Unfit (N : net.Net) : Type 0 where
  no_busy-length : (i : net.Flow) → Here N i → ((B : ℕ) → IsBusy N i B → ⊥) → Unfit N
  not-settled : ((S : Arrivals) → Settled N S → ⊥) → Unfit N
  past_deadline : (S : Arrivals) (i : net.Flow) (b : ℕ) → LeastSettled N S → Here N i → IsBound N i S b → i.deadline < b → Unfit N

-- the lowest refusal from 2 to 10 that applies, with the least flow at fault: 2 to 6 of the flow, then the judgement of the enlarged set that is meant
pub data OfAdmission (t : Table) (f : Flow) : Ruling → Type 0 where
  by-entry : (c : Ruling) → (c ≡ accepted → ⊥) → OfEntry (held t.row) f c → OfAdmission t f c
  by-set : (v : net.Judgement) → Enters (held t.row) f → Judged (enlarged_net t f) v → OfAdmission t f (ruling_of (verdict_from v))

pub record Admitting (t : Table) (f : Flow) (r : Answer) : Type 0 where
  pub cause : Exact (cause_in r.outcome) (OfAdmission t f)
  pub place : place_in r.outcome ≡ 0
  -- a well-formed new flow, its number unused, room left and paths crossing as permitted, is refused exactly if the enlarged set is unfit
  pub exactly : Enters (held t.row) f → CrossingPermitted (enlarged_net t f) → Exactly (cause_in r.outcome ≡ Ok tt → ⊥) (Unfit (enlarged_net t f))
  pub refused : (cause_in r.outcome ≡ Ok tt → ⊥) → r.table ≡ t
  pub links : SameLinks r.table t
  pub present : cause_in r.outcome ≡ Ok tt → (g : Flow) → Exactly (Present r.table g) ((g ≡ f) ⊎ Present t g)
  pub sound : Sound r.table

-- ---- withdrawal
-- f is gone, the others stay, no remaining bound that asking gives is higher, and admitting f again gives the table as it was
pub record Gone (t : Table) (f : Flow) (r : Answer) : Type 0 where
  pub succeeds : cause_in r.outcome ≡ Ok tt
  pub others : (g : Flow) → Exactly (Present r.table g) ((g.number ≡ f.number → ⊥) × Present t g)
  pub lowers : (g : Flow) → Present r.table g → (before after : Figures) → asked_for t g.number ≡ Ok before →
      asked_for r.table g.number ≡ Ok after → after.bound ≤ before.bound
  pub again : admitted r.table f ≡ answered accepted t

pub record Withdrawing (t : Table) (number : ℕ) (r : Answer) : Type 0 where
  pub place : place_in r.outcome ≡ 0
  pub absent : Unused t number → (cause_in r.outcome ≡ Err Absent) × (r.table ≡ t)
  pub present : (f : Flow) → Present t f → f.number ≡ number → Gone t f r
  pub links : SameLinks r.table t
  pub sound : Sound r.table

-- ---- asking
pub record Asking (t : Table) (number : ℕ) (r : Asked) : Type 0 where
  pub absent : Unused t number → r ≡ Err (record { cause = Absent; place = 0 })
  pub absent_is_11 : (number_of Absent ≡ 11) × (flow_named Absent ≡ 0)
  pub arrivals : Arrivals
  pub least : LeastSettled (table_net t) arrivals
  pub present : (f : Flow) → Present t f → f.number ≡ number → Stored t arrivals f r
