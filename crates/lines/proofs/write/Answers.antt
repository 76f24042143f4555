use lib.ListN.{set}
use lib.ListN.{length-set}
use Rattle.lines.proofs.Puts.{wrote_short, wrote_all, kept, filled}
use Rattle.lines.proofs.Promises.{write_promise}
use native.Mathlib.Omega.{arith}
use Rattle.lines.proofs.write.Goals as goal

pub returns-then-buffer-length : goal.returns-then-buffer-length
returns-then-buffer-length c = record { value = search wrote_short; buffer_after = search kept; report_written = search (write_promise, wrote_short, kept) }

pub bounds-buffer-1 : goal.bounds-buffer-1
bounds-buffer-1 c = simp length-set (omega arith)

pub put_lines-requires : goal.put_lines-requires
put_lines-requires c = simp length-set (omega arith)

pub bounds-buffer-end : goal.bounds-buffer-end
bounds-buffer-end c = omega (arith, length-set (set c.args.buffer.now 0 16) 1 c.size-n.result, length-set c.args.buffer.now 0 16)

pub returns : goal.returns
returns c = record { value = search wrote_all; buffer_after = search filled; report_written = search (write_promise, wrote_all, filled) }
