-- What judging a set, and reading and writing a whole plan, promise: RULES, demands, in the demands' words. The equations that callers use stand in Plans.
use Rattle.std.specs.Prelude.{ℕ, Result, Ok, ◌≤◌, ◌≡◌, List, length, take}
use Rattle.rules.specs.Net as net
use Rattle.rules.specs.Meaning.{Judged}
use Rattle.flows.specs.declared.Flow.{Flow}
use Rattle.flows.specs.declared.Table.{Table}
use Rattle.flows.specs.declared.Answer.{Answer}
use Rattle.flows.specs.declared.Refusal.{Refusal}
use Rattle.flows.specs.Refusals.{Ruling, accepted, cause_in, place_in}
use Rattle.flows.specs.Lists.{net_of}
use Rattle.flows.specs.WellFormed.{Exact}
use Rattle.records.specs.Bodies.{Bytes}
use Rattle.plan.specs.declared.FlowSet.{FlowSet}
use Rattle.plan.specs.Writing.{set_bytes}
use Rattle.plan.specs.Demands.{size, WritesBack, SetWritten}
use Rattle.engine.specs.Verdicts.{ruling_of, verdict_from}
use Rattle.table.specs.Calls.{answered}
use Rattle.table.specs.Demands.{Present, Sound}
use Rattle.plans.specs.Plans.{plan_answer, set_of, table_bytes}

-- the empty table with both link delays 0
pub record Empty (t : Table) : Type 0 where
  pub flows : (f : Flow) → Present t f → ⊥
  pub lmin : t.lmin ≡ 0
  pub lmax : t.lmax ≡ 0

-- ---- judging
-- the lowest refusal from 7 to 10 that applies, with the least flow at fault, or none: the judgement of the set that is meant
pub data OfSet (s : FlowSet) : Ruling → Type 0 where
  by-judgement : (v : net.Judgement) → Judged (net_of s.lmin s.lmax s.row) v → OfSet s (ruling_of (verdict_from v))

pub record SetJudged (s : FlowSet) (r : Answer) : Type 0 where
  pub cause : Exact (cause_in r.outcome) (OfSet s)
  pub place : place_in r.outcome ≡ 0
  -- the set's own link delays and flows, and so its bytes
  pub accepted : cause_in r.outcome ≡ Ok tt → set_of r.table ≡ s
  pub bytes : cause_in r.outcome ≡ Ok tt → table_bytes r.table ≡ set_bytes s
  pub refused : (cause_in r.outcome ≡ Ok tt → ⊥) → Empty r.table
  pub sound : Sound r.table

-- ---- reading, then judging
pub record PlanRead (b : List ℕ) (r : Answer) : Type 0 where
  pub accepted : cause_in r.outcome ≡ Ok tt → (place_in r.outcome ≡ 0) × ((old : List ℕ) → length b ≤ length old → WritesBack b (set_of r.table) old)
  pub refused : (cause_in r.outcome ≡ Ok tt → ⊥) → Empty r.table
  pub sound : Sound r.table

-- ---- writing
-- as its set is written; the buffer's beginning is then read and judged as that table and, where the table was so made of a plan, is that plan
pub record PlanWritten (t : Table) (old : List ℕ) (r : Result ℕ Refusal) (new : List ℕ) : Type 0 where
  pub set : SetWritten (set_of t) old r new
  pub read : size (set_of t) ≤ length old → plan_answer (take (size (set_of t)) new) ≡ answered accepted t
  pub plan : size (set_of t) ≤ length old → (b : List ℕ) → Bytes b → cause_in (plan_answer b).outcome ≡ accepted → (plan_answer b).table ≡ t → take (size (set_of t)) new ≡ b
