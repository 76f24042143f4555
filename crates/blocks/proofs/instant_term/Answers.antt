use mathlib.Core.Path.{◌∙◌}
use Rattle.blocks.proofs.Terms.{instant_here, instant_not}
use native.Mathlib.Omega.{arith}
use Rattle.blocks.proofs.instant_term.Goals as goal

pub returns-then-look-eq-INSTANT-clause-value : goal.returns-then-look-eq-INSTANT-clause-value
returns-then-look-eq-INSTANT-clause-value c = c.term.ensures.value ∙ instant_here c.args.e.now c.args.k (omega arith) c.args.u

pub returns-clause-value : goal.returns-clause-value
returns-clause-value c = instant_not c.args.e.now c.args.k (λ z. omega arith) c.args.u
