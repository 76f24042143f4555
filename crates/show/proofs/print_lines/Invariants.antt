-- The lines up to here were written.
use Rattle.std.proofs.Common.{take}
use Rattle.std.specs.List.{flat_map}
use Rattle.std.specs.Io.KnownBytes.{Appends}
use Rattle.show.specs.Texts.{line_text}
use Rattle.show.proofs.print_lines.Given as goal

abbrev pub invariant-loop-line : goal.invariant-loop-line
invariant-loop-line g l = Appends (g.W.Write.contents l.initial.out) (g.W.Write.contents l.out) (flat_map line_text (take l.line-index l.line-items))
