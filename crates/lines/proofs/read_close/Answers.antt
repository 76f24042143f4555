use mathlib.Core.Path.{sym, ◌∙◌}
use native.Mathlib.Omega.{arith}
use Rattle.reader.specs.declared.Kind.TheVariants as kind
use Rattle.reader.proofs.Places.{whole, saw, saw_other, saw_none}
use Rattle.lines.proofs.Steps.{close_other, close_more, close_last}
use Rattle.lines.proofs.read_close.Goals as goal

pub returns-in_err-ok_or : goal.returns-in_err-ok_or
returns-in_err-ok_or c =
    let n = saw_none _ _ _ c.ok_or.ensures.value kind.Close _ _ c.in_err-ok_or.was c.from_residual.ensures.1 in
    n.0 ∙ close_other _ _ _ _ c.seen.ensures _ n.1 c.at-refusal.ensures

pub returns-in_default : goal.returns-in_default
returns-in_default c = let n = saw_other _ _ _ c.ok_or.ensures.value _ _ c.in_ok-ok_or.was c.in_default.not-Close in search close_other

pub overflow_add-at : goal.overflow_add-at
overflow_add-at c = omega (arith, whole _ _ kind.Close (sym c.seen.ensures ∙ saw _ _ _ c.ok_or.ensures.value _ _ c.in_ok-ok_or.was c.in-Close.is))

pub returns-then-at-bytes : goal.returns-then-at-bytes
returns-then-at-bytes c = let h = saw _ _ _ c.ok_or.ensures.value _ _ c.in_ok-ok_or.was c.in-Close.is in search close_more

pub returns : goal.returns
returns c = let h = saw _ _ _ c.ok_or.ensures.value _ _ c.in_ok-ok_or.was c.in-Close.is in search close_last
