use Rattle.blocks.proofs.Looks.{look_here, look_not}
use Rattle.least.specs.Lists.{values}
use native.Mathlib.Omega.{arith}
use Rattle.blocks.proofs.add_look.Goals as goal

pub returns-then-look-eq-INSTANT-clause-value : goal.returns-then-look-eq-INSTANT-clause-value
returns-then-look-eq-INSTANT-clause-value c = omega (arith, look_not c.args.e.now c.args.k (values c.args.v.now) (omega arith))

pub returns-clause-value : goal.returns-clause-value
returns-clause-value c = omega (arith, c.term.ensures.value, look_here c.args.e.now c.args.k (values c.args.v.now) (λ z. omega arith))
