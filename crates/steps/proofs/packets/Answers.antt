use native.Mathlib.Omega.{arith}
use Rattle.steps.proofs.Counting.{packets_elsewhere, packets_here, packets_none}
use Rattle.steps.proofs.packets.Goals as goal

pub returns-then-slot-ne-INSTANT-clause-value : goal.returns-then-slot-ne-INSTANT-clause-value
returns-then-slot-ne-INSTANT-clause-value c = packets_elsewhere c.args.e.now c.args.x c.args.k (λ z. omega arith)

pub returns-then-period-eq0-clause-value : goal.returns-then-period-eq0-clause-value
returns-then-period-eq0-clause-value c = packets_none c.args.e.now c.args.x c.args.k (omega arith) c.if-period-eq0.true

pub returns-clause-value : goal.returns-clause-value
returns-clause-value c = packets_here c.args.e.now c.args.x c.args.k (omega arith)
