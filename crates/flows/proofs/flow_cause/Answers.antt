use borrow.Author.Rules.{rules}
use Rattle.flows.proofs.Arrays.{typed}
use Rattle.flows.proofs.Causes.{cause_number, cause_range, cause_twice, cause_accepted}
use Rattle.flows.proofs.Passed.{flow_given}
use Rattle.flows.proofs.flow_cause.Goals as goal

pub returns-then-f-eq0 : goal.returns-then-f-eq0
returns-then-f-eq0 c = record { value = search cause_number; exact = search (flow_given, cause_number, typed, rules); typed = search (typed, rules) }

pub returns-then-not-ranges_fit : goal.returns-then-not-ranges_fit
returns-then-not-ranges_fit c = record { value = search cause_range; exact = search (flow_given, cause_range, typed, rules); typed = search (typed, rules) }

pub returns-then-not-nodes_differ : goal.returns-then-not-nodes_differ
returns-then-not-nodes_differ c = record { value = search cause_twice; exact = search (flow_given, cause_twice, typed, rules); typed = search (typed, rules) }

pub returns : goal.returns
returns c = record { value = search cause_accepted; exact = search (flow_given, cause_accepted, typed, rules); typed = search (typed, rules) }
