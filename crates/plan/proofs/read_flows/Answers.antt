use mathlib.Core.Path.{sym, ap, ◌∙◌}
use native.Mathlib.Omega.{arith}
use Rattle.std.proofs.Common.{Some}
use Rattle.reader.specs.declared.Kind.TheVariants as kind
use Rattle.reader.proofs.Places.{whole, kind_none, kind_other}
use Rattle.plan.proofs.Steps.{flows-start, start_made, flows_other, flows_refused, flows_more, flows_made}
use Rattle.plan.proofs.read_flows.Goals as goal
use Rattle.plan.proofs.read_flows.Goals.{in-Some+in_default-kind, in_default}

pub loop-kind-init : goal.loop-kind-init
loop-kind-init c = (search start_made, search flows-start)

pub flow_at-f-requires : goal.flow_at-f-requires
flow_at-f-requires c = omega (arith, whole _ _ kind.Flow (sym c.seen.ensures ∙ c.in-Some.is ∙ ap Some c.in-Flow.is))

pub returns-in-Err : goal.returns-in-Err
returns-in-Err c = let h = c.in-Some.is ∙ ap Some c.in-Flow.is in search flows_refused

pub overflow_add-at : goal.overflow_add-at
overflow_add-at c = omega (arith, whole _ _ kind.Flow (sym c.seen.ensures ∙ c.in-Some.is ∙ ap Some c.in-Flow.is))

pub loop-kind-smaller : goal.loop-kind-smaller
loop-kind-smaller c = omega (arith, whole _ _ kind.Flow (sym c.seen.ensures ∙ c.in-Some.is ∙ ap Some c.in-Flow.is))

pub loop-kind-preserved : goal.loop-kind-preserved
loop-kind-preserved c =
    let h = c.in-Some.is ∙ ap Some c.in-Flow.is in
    (search flows_made, flows_more _ _ c.loop-kind.row _ c.loop-kind.at _ c.loop-kind.invariant.0 c.loop-kind.invariant.1 _ c.seen.ensures h _ c.flow_at-f.ensures _ c.record_cause.ensures c.in_default-record_cause.is _ c.append-row.ensures)

pub returns : goal.returns
returns c = elim c.match-seen.branch [
  | in-Some+in_default-kind w ↦ let n = kind_other _ _ _ w.in-Some.is w.in_default-kind.not-Flow in search flows_other
  | in_default w ↦ let n = kind_none _ kind.Flow w.in_default.is in search flows_other
]
