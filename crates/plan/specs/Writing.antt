-- Writing a plan: the bytes, the answer, and what the buffer then holds.
use Rattle.flows.specs.declared.Refusal.{Refusal}
use Rattle.std.specs.Prelude.{Result, ℕ, ◌+◌, ◌*◌, List, [], ◌∷◌, ◌++◌, length}
use Rattle.flows.specs.declared.Flow.{Flow}
use Rattle.flows.specs.Lists.{held}
use Rattle.records.specs.Kinds.{links_kind, links_record, flow_kind, flow_record, end_kind}
use Rattle.records.specs.Bodies.{links_written, flow_written}
use Rattle.records.specs.Rows.{row_bytes, size_written, buffer_with}
use Rattle.plan.specs.declared.FlowSet.{FlowSet}

abbrev pub links_bytes : ℕ → ℕ → List ℕ
links_bytes lmin lmax = links_kind ∷ links_written lmin lmax

abbrev pub flow_bytes : Flow → List ℕ
flow_bytes f = flow_kind ∷ flow_written f

abbrev pub flows_bytes : List Flow → List ℕ
flows_bytes fs = row_bytes flow_bytes fs

-- 01, then each 02, then 7F
unfoldable pub plan_bytes : ℕ → ℕ → List Flow → List ℕ
plan_bytes lmin lmax fs = links_bytes lmin lmax ++ flows_bytes fs ++ (end_kind ∷ [])

-- the plan of a set
abbrev pub set_bytes : FlowSet → List ℕ
set_bytes s = plan_bytes s.lmin s.lmax (held s.row)

-- the sum of the records: 6 + 34 × n
abbrev pub plan_length : ℕ → ℕ
plan_length n = links_record + flow_record * n + 1

-- 13, if the plan does not fit. RULES, writing
abbrev pub written_into : ℕ → ℕ → Result ℕ Refusal
written_into space n = size_written space (plan_length n)

-- the plan, and behind it what was there; where it does not fit, all that was there. RULES, writing
abbrev pub buffer_after : ℕ → ℕ → List Flow → List ℕ → List ℕ
buffer_after lmin lmax fs old = buffer_with (plan_bytes lmin lmax fs) (plan_length (length fs)) old
