use mathlib.Core.Path.{◌≡◌, sym, ◌∙◌}
use native.Mathlib.Omega.{arith}
use Rattle.std.proofs.Common.{Err}
use Rattle.reader.specs.declared.Kind.TheVariants as kind
use Rattle.reader.proofs.Places.{whole, saw, saw_other, saw_none}
use Rattle.lines.proofs.Steps.{lines_done, lines_other, lines_refused, lines_made, lines_latest, lines_counted, lines_more, start_made, start_latest, start_counted, start_lines}
use Rattle.lines.proofs.read_lines.Goals as goal

pub loop-init : goal.loop-init
loop-init c = record { made = search start_made; latest = search start_latest; counted = search start_counted; rest = search start_lines }

pub returns-in_err-ok_or : goal.returns-in_err-ok_or
returns-in_err-ok_or c =
    let n = saw_none _ _ _ c.ok_or.ensures.value kind.Line _ _ c.in_err-ok_or.was c.from_residual.ensures.1 in
    let r : c.from_residual.result ≡ Err c.at-refusal.result = n.0 in
    let o = n.1 in
    r ∙ search lines_other

pub returns-in_default : goal.returns-in_default
returns-in_default c = let n = saw_other _ _ _ c.ok_or.ensures.value _ _ c.in_ok-ok_or.was c.in_default.not-Line in search lines_other

pub line_at-line-requires : goal.line_at-line-requires
line_at-line-requires c = omega (arith, whole _ _ kind.Line (sym c.seen.ensures ∙ saw _ _ _ c.ok_or.ensures.value _ _ c.in_ok-ok_or.was c.in-Line.is))

pub returns-in-Err : goal.returns-in-Err
returns-in-Err c = let h = saw _ _ _ c.ok_or.ensures.value _ _ c.in_ok-ok_or.was c.in-Line.is in search lines_refused

pub overflow_add-at : goal.overflow_add-at
overflow_add-at c = omega (arith, whole _ _ kind.Line (sym c.seen.ensures ∙ saw _ _ _ c.ok_or.ensures.value _ _ c.in_ok-ok_or.was c.in-Line.is))

pub loop-preserved : goal.loop-preserved
loop-preserved c =
    let h = saw _ _ _ c.ok_or.ensures.value _ _ c.in_ok-ok_or.was c.in-Line.is in
    record { made = search lines_made; latest = search lines_latest; counted = search lines_counted; rest = search lines_more }

pub returns : goal.returns
returns c = search lines_done
