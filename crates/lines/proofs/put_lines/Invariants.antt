use lib.ListN.{take}
use Rattle.lines.proofs.Puts.{Lines}
use Rattle.lines.proofs.put_lines.Given as goal

abbrev pub invariant-loop-k : goal.invariant-loop-k
invariant-loop-k l = Lines l.initial.buffer (take l.k l.report.lines) l.buffer
