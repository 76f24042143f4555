use native.Mathlib.Omega.{arith}
use Rattle.nets.proofs.Places.{position_more, position_here, position_end}
use Rattle.nets.proofs.Net.position.Goals as goal

pub returns-then-node-h-clause-value : goal.returns-then-node-h-clause-value
returns-then-node-h-clause-value c = search position_here

pub loop-k-preserved : goal.loop-k-preserved
loop-k-preserved c = search position_more

pub returns-clause-value : goal.returns-clause-value
returns-clause-value c = grind (arith, position_end)
