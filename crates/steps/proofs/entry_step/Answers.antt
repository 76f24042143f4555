use Rattle.steps.proofs.Steps.{entry_none, entry_other, entry_looks}
use native.Mathlib.Omega.{arith}
use Rattle.steps.proofs.entry_step.Goals as goal

pub returns-then-weight-eq0 : goal.returns-then-weight-eq0
returns-then-weight-eq0 c = entry_none c.args.e.now c.args.k c.args.u c.args.end (omega arith) (omega arith)

pub returns-then-look-ne-INSTANT : goal.returns-then-look-ne-INSTANT
returns-then-look-ne-INSTANT c = entry_other c.args.e.now c.args.k c.args.u c.args.end (omega arith) (λ z. omega arith)

pub returns : goal.returns
returns c = entry_looks c.args.e.now c.args.k c.args.u c.args.end c.count_step.result (omega arith) (omega arith) c.count_step.ensures
