use mathlib.Core.Path.{refl, ap}
use Prim.Native.Nat.{◌+◌, ◌-◌, ◌*◌}
use Rattle.least.specs.Lists.{values}
use Rattle.blocks.specs.Sheet.{head_size, entry_size}
use Rattle.steps.specs.Kept.{kept_size}
use Rattle.least.proofs.Stores.{inside-none}
use Rattle.steps.proofs.Kept.{entered_none, entered_more, entered_looks, entered_all}
use Rattle.steps.proofs.Sums.{gained_none, gained_more, gained_all, gained_small}
use native.Mathlib.Omega.{arith}
use Rattle.steps.proofs.advance_node.Goals as goal

pub loop-q-init : goal.loop-q-init
loop-q-init c =
    (c.block_at-block.ensures.value, ap (λ x. values c.args.e.now (x + 2)) c.block_at-block.ensures.value, gained_none c.args.e.now c.args.p (c.args.u - 1) c.args.u _ c.requires.kept_at.sum, entered_none c.args.e.now c.args.end c.args.u c.args.p c.args.at c.args.steps.now (omega arith))

pub advance_entry-sum-requires-clause-entry_size_in_bounds : goal.advance_entry-sum-requires-clause-entry_size_in_bounds
advance_entry-sum-requires-clause-entry_size_in_bounds c =
    (omega arith, c.requires.shaped.0.short, c.requires.shaped.0.small, c.requires.shaped.1, c.requires.shaped.2, c.requires.shaped.3, gained_small c.args.e.now c.args.p (c.args.u - 1) c.args.u c.requires.shaped.0.small (omega arith) (omega arith) c.block_at-block.ensures.p_in_bounds.1 c.loop-q.q c.loop-q.sum (omega arith) c.loop-q.invariant.2)

pub loop-q-preserved : goal.loop-q-preserved
loop-q-preserved c =
    let place = ap (λ b. b + head_size + c.loop-q.q * entry_size) c.loop-q.invariant.0 in
    (c.loop-q.invariant.0, c.loop-q.invariant.1, gained_more c.args.e.now c.args.p (c.args.u - 1) c.args.u c.loop-q.q c.loop-q.sum c.advance_entry-sum.result _ place c.loop-q.invariant.2 c.advance_entry-sum.ensures.k_value.0, entered_more c.args.e.now c.args.end c.args.u c.args.p c.args.at c.args.steps.now c.loop-q.steps c.loop-q.next c.loop-q.q c.loop-q.invariant.3 c.advance_entry-sum.new.steps (values c.advance_entry-sum.new.steps (c.args.at + kept_size + c.loop-q.q)) c.min-next.result _ place c.advance_entry-sum.ensures.inside refl c.advance_entry-sum.ensures.entry_step c.min-next.ensures)

pub returns-clause-kept_now : goal.returns-clause-kept_now
returns-clause-kept_now c =
    (entered_all c.args.e.now c.args.end c.args.u c.args.p c.args.at c.args.steps.now c.loop-q.steps c.loop-q.next c.loop-q.q c.loop-q.invariant.3 c.loop-q.sum _ inside-none (omega arith)
    (gained_all c.args.e.now c.args.p (c.args.u - 1) c.args.u c.loop-q.q c.loop-q.sum c.loop-q.invariant.2 (omega arith))
    (entered_looks c.args.e.now c.args.end c.args.u c.args.p c.args.at c.args.steps.now c.loop-q.steps c.loop-q.next c.loop-q.q c.loop-q.invariant.3 c.loop-q.sum c.requires.kept_at.looks) (omega arith)).0
