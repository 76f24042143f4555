use mathlib.Core.Path.{◌≡◌, sym, subst}
use Prim.Native.Nat.{◌-◌, ◌+◌}
use Rattle.least.specs.Lists.{values}
use Rattle.steps.specs.Steps.{EntryStep}
use lib.Seq.{get_or-set_same}
use Rattle.steps.proofs.Steps.{entry_tick, entry_again}
use native.Mathlib.Omega.{arith}
use Rattle.steps.proofs.advance_entry.Goals as goal

pub returns-clause-k_value : goal.returns-clause-k_value
returns-clause-k_value c =
    let is : values c.args.steps.now c.args.at ≡ c.args.u = omega arith in
    let old = subst (EntryStep c.args.e.now c.args.k (c.args.u - 1) c.args.end) is c.requires.at_in_bounds.2 in
    (omega (arith, entry_tick c.args.e.now c.args.k (c.args.u - 1) c.args.end c.args.u old (omega arith) (omega arith)), omega (arith, c.requires.entry_size_in_bounds.2 (c.args.k + 4)))

pub returns-clause-entry_step : goal.returns-clause-entry_step
returns-clause-entry_step c =
    let is : values c.args.steps.now c.args.at ≡ c.args.u = omega arith in
    let old = subst (EntryStep c.args.e.now c.args.k (c.args.u - 1) c.args.end) is c.requires.at_in_bounds.2 in
    subst (EntryStep c.args.e.now c.args.k c.args.u c.args.end) (sym (get_or-set_same c.args.steps.now c.args.at c.count_step.result 0 (omega arith))) (entry_again c.args.e.now c.args.k (c.args.u - 1) c.args.u c.args.end c.count_step.result old (omega arith) c.count_step.ensures)
