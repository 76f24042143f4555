use Rattle.least.proofs.Steps.{count_first, count_ever, count_next}
use native.Mathlib.Omega.{arith}
use Rattle.steps.proofs.step_after.Goals as goal

pub returns-then-u-a : goal.returns-then-u-a
returns-then-u-a c = rw c.min.ensures (count_first c.args.a c.args.b c.args.t c.args.u c.args.end (omega arith) (omega arith))

pub returns-then-t-eq0 : goal.returns-then-t-eq0
returns-then-t-eq0 c = count_ever c.args.a c.args.b c.args.t c.args.u c.args.end (omega arith) (omega arith) (omega arith)

pub returns : goal.returns
returns c = rw c.min-2.ensures (count_next c.args.a c.args.b c.args.t c.args.u c.args.end (omega arith) (omega arith) (omega arith))
