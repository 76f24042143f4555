use mathlib.Core.Path.{◌≡◌}
use Rattle.std.specs.Prelude.{Err}
use borrow.Author.Rules.{rules}
use Rattle.row.proofs.Arrays.{entry_refused, entry_present, entry_full, entry_accepted}
use Rattle.flows.proofs.Causes.{passed_up}
use Rattle.row.proofs.Sets.{entry_given}
use Rattle.row.proofs.entry_cause.Goals as goal

pub returns-in_err-flow_cause : goal.returns-in_err-flow_cause
returns-in_err-flow_cause c =
    let e : c.from_residual.result ≡ Err c.in_err-flow_cause.field-0.0 = passed_up _ _ c.from_residual.ensures.1 in
    let w = c.in_err-flow_cause.was in
    record { value = search entry_refused; exact = search (entry_given, entry_refused, rules); typed = search rules }

pub returns-then-is_some : goal.returns-then-is_some
returns-then-is_some c = let w = c.in_ok-flow_cause.was in record { value = search entry_present; exact = search (entry_given, entry_present, rules); typed = search rules }

pub returns-then-size-ge-FLOWS : goal.returns-then-size-ge-FLOWS
returns-then-size-ge-FLOWS c = let w = c.in_ok-flow_cause.was in record { value = search entry_full; exact = search (entry_given, entry_full, rules); typed = search rules }

pub returns : goal.returns
returns c = let w = c.in_ok-flow_cause.was in record { value = search entry_accepted; exact = search (entry_given, entry_accepted, rules); typed = search rules }
