use mathlib.Core.Path.{sym, ◌∙◌}
use native.Mathlib.Omega.{arith}
use Rattle.reader.specs.declared.Kind.TheVariants as kind
use Rattle.reader.proofs.Places.{whole, saw, saw_other, saw_none}
use Rattle.plan.proofs.Steps.{records_other, records_delays, records_read}
use Rattle.plan.proofs.read_records.Goals as goal

pub returns-in_err-ok_or : goal.returns-in_err-ok_or
returns-in_err-ok_or c =
    let n = saw_none _ _ _ c.ok_or.ensures.value kind.Links _ _ c.in_err-ok_or.was c.from_residual.ensures.1 in
    n.0 ∙ records_other _ _ c.seen.ensures n.1 _ c.at-refusal.ensures

pub returns-in_default : goal.returns-in_default
returns-in_default c = let n = saw_other _ _ _ c.ok_or.ensures.value _ _ c.in_ok-ok_or.was c.in_default.not-Links in search records_other

pub slice_bounds-read_links-end : goal.slice_bounds-read_links-end
slice_bounds-read_links-end c = omega (arith, whole _ _ kind.Links (sym c.seen.ensures ∙ saw _ _ _ c.ok_or.ensures.value _ _ c.in_ok-ok_or.was c.in-Links.is))

pub returns-in-Err : goal.returns-in-Err
returns-in-Err c = let h = saw _ _ _ c.ok_or.ensures.value _ _ c.in_ok-ok_or.was c.in-Links.is in search records_delays

pub returns : goal.returns
returns c = let h = saw _ _ _ c.ok_or.ensures.value _ _ c.in_ok-ok_or.was c.in-Links.is in search records_read
