-- The header, and then each line.
use Rattle.std.proofs.Common.{◌≡◌, arith, take, take_all, subst, ap, ◌∙◌, ◌++◌, codes}
use Rattle.std.specs.List.{flat_map}
use Rattle.std.specs.Io.KnownBytes.{Appends}
use Rattle.std.proofs.KnownBytes.{Appends-trans}
use Rattle.lines.specs.Reports.{lines_in}
use Rattle.row.proofs.Arrays.{take_counted}
use Rattle.show.specs.Texts.{line_text, report_text}
use Rattle.show.proofs.Pieces.{piece_more}
use Rattle.show.proofs.print_lines.Goals as goal

pub loop-line-preserved : goal.loop-line-preserved
loop-line-preserved g c =
    let items = take c.size.result c.args.report.lines in
    subst (Appends _ _) (piece_more line_text items c.loop-line.line-index _ c.loop-line-test.true) (Appends-trans _ _ _ _ _ c.loop-line.invariant c.in_ok-writeln.ensures.bytes)

pub returns : goal.returns
unfolding report_text lines_in
returns g c =
    let items = take c.size.result c.args.report.lines in
    let whole : take c.loop-line.line-index items ≡ lines_in c.args.report = take_all c.loop-line.line-index items (omega (arith, c.loop-line-test.false)) ∙ take_counted c.args.report.lines c.args.report.count c.size.result c.size.ensures.value in
    subst (Appends _ _) (ap (λ ls. codes "flow bound jitter busy\n" ++ flat_map line_text ls) whole) (Appends-trans _ _ _ _ _ c.in_ok-put.ensures c.loop-line.invariant)
