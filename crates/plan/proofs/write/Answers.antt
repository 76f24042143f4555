use native.Mathlib.Omega.{arith}
use lib.ListN.{length-set}
use Rattle.plan.proofs.Puts.{wrote_short, wrote_all, kept, filled}
use Rattle.plan.proofs.Promises.{write_promise}
use Rattle.plan.proofs.write.Goals as goal

pub returns-then-buffer-size : goal.returns-then-buffer-size
returns-then-buffer-size c = record { value = search wrote_short; buffer_after = search kept; set_written = search (write_promise, wrote_short, kept) }

pub shape_of-buffer : goal.shape_of-buffer
shape_of-buffer c = simp length-set (omega arith)

pub returns : goal.returns
returns c = record { value = search wrote_all; buffer_after = search filled; set_written = search (write_promise, wrote_all, filled) }
