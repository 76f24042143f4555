use mathlib.Core.Path.{sym, ◌∙◌}
use native.Mathlib.Omega.{arith}
use Rattle.reader.specs.declared.Kind.TheVariants as kind
use Rattle.reader.proofs.Places.{whole, saw, saw_other, saw_none}
use Rattle.plan.proofs.Steps.{end_other, end_more, end_last}
use Rattle.plan.proofs.read_end.Goals as goal

pub returns-in_err-ok_or : goal.returns-in_err-ok_or
returns-in_err-ok_or c =
    let n = saw_none _ _ _ c.ok_or.ensures.value kind.End _ _ c.in_err-ok_or.was c.from_residual.ensures.1 in
    n.0 ∙ end_other _ _ _ _ _ _ c.seen.ensures _ n.1 c.at-refusal.ensures

pub returns-in_default : goal.returns-in_default
returns-in_default c = let n = saw_other _ _ _ c.ok_or.ensures.value _ _ c.in_ok-ok_or.was c.in_default.not-End in search end_other

pub overflow_add-at : goal.overflow_add-at
overflow_add-at c = omega (arith, whole _ _ kind.End (sym c.seen.ensures ∙ saw _ _ _ c.ok_or.ensures.value _ _ c.in_ok-ok_or.was c.in-End.is))

pub returns-then-at-plan : goal.returns-then-at-plan
returns-then-at-plan c = let h = saw _ _ _ c.ok_or.ensures.value _ _ c.in_ok-ok_or.was c.in-End.is in search end_more

pub returns : goal.returns
returns c = let h = saw _ _ _ c.ok_or.ensures.value _ _ c.in_ok-ok_or.was c.in-End.is in search end_last
