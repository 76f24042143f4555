use borrow.Author.Rules.{rules}
use Rattle.flows.specs.Tests.{delay_cause}
use Rattle.flows.proofs.Passed.{delays_given}
use Rattle.flows.proofs.delay_cause.Goals as goal

pub returns-then-lmax-le-DELAY-clause-exact : goal.returns-then-lmax-le-DELAY-clause-exact
unfolding delay_cause
returns-then-lmax-le-DELAY-clause-exact c = delays_given _ _ _ (search rules)

pub returns-else-lmin-lmax-clause-exact : goal.returns-else-lmin-lmax-clause-exact
unfolding delay_cause
returns-else-lmin-lmax-clause-exact c = delays_given _ _ _ (search rules)
