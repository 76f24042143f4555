use mathlib.Core.Path.{sym, ◌∙◌}
use native.Mathlib.Omega.{arith}
use Rattle.reader.specs.declared.Kind.TheVariants as kind
use Rattle.reader.proofs.Places.{whole, saw, saw_other, saw_none}
use Rattle.lines.proofs.Steps.{records_other, records_many, records_lines}
use Rattle.lines.proofs.read_records.Goals as goal

pub returns-in_err-ok_or : goal.returns-in_err-ok_or
returns-in_err-ok_or c =
    let n = saw_none _ _ _ c.ok_or.ensures.value kind.Count _ _ c.in_err-ok_or.was c.from_residual.ensures.1 in
    n.0 ∙ records_other _ _ c.seen.ensures n.1 _ c.at-refusal.ensures

pub returns-in_default : goal.returns-in_default
returns-in_default c = let n = saw_other _ _ _ c.ok_or.ensures.value _ _ c.in_ok-ok_or.was c.in_default.not-Count in search records_other

pub bounds-bytes-1 : goal.bounds-bytes-1
bounds-bytes-1 c = omega (arith, whole _ _ kind.Count (sym c.seen.ensures ∙ saw _ _ _ c.ok_or.ensures.value _ _ c.in_ok-ok_or.was c.in-Count.is))

pub returns-then-count-gt-FLOWS : goal.returns-then-count-gt-FLOWS
returns-then-count-gt-FLOWS c = let h = saw _ _ _ c.ok_or.ensures.value _ _ c.in_ok-ok_or.was c.in-Count.is in search records_many

pub returns : goal.returns
returns c = let h = saw _ _ _ c.ok_or.ensures.value _ _ c.in_ok-ok_or.was c.in-Count.is in search records_lines
