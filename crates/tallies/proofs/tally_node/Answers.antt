use mathlib.Core.Path.{refl, ap, ◌∙◌}
use Prim.Native.Nat.{◌+◌, ◌*◌}
use native.Mathlib.Omega.{arith}
use Rattle.least.specs.Lists.{values}
use Rattle.least.proofs.Stores.{filled_all, filled_inside}
use Rattle.blocks.specs.Sheet.{head_size, entry_size}
use Rattle.tallies.proofs.Sums.{part_none, part_more, part_all, tallied_none, tallied_more, tallied_all, tallied_scant, ceiling_few}
use Rattle.tallies.proofs.tally_node.Goals as goal

pub loop-q-init : goal.loop-q-init
loop-q-init c =
    (c.block_at-block.ensures.value, ap (λ x. values c.args.e.now (x + 2)) c.block_at-block.ensures.value, ap (values c.args.e.now) c.block_at-block.ensures.value ∙ part_none c.args.e.now c.args.best.now c.args.p c.args.u c.args.n, omega (arith, c.requires.shaped.0.small c.block_at-block.result), tallied_none c.args.e.now c.args.best.now c.args.p c.args.u c.args.n _ c.requires.by_index.1 (filled_all c.args.tally.now c.fill.new.self c.args.n 0 c.requires.by_index.2 (c.fill.ensures.after (λ y h. h))), refl)

pub lay_entry-sum-requires-clause-by_index : goal.lay_entry-sum-requires-clause-by_index
lay_entry-sum-requires-clause-by_index c =
    (c.requires.by_index.0, omega (arith, c.loop-q.invariant.5, (filled_inside c.args.tally.now c.fill.new.self c.args.n 0 c.requires.by_index.2 (c.fill.ensures.after (λ y h. h))).long), c.requires.by_index.3, tallied_scant c.args.e.now c.args.best.now c.args.p c.args.u c.args.n c.requires.shaped.0 c.requires.shaped.2 c.requires.shaped.3 c.requires.by_index.3 c.loop-q.q c.loop-q.tally (omega arith) c.loop-q.invariant.4)

pub loop-q-preserved : goal.loop-q-preserved
loop-q-preserved c =
    let place = ap (λ b. b + head_size + c.loop-q.q * entry_size) c.loop-q.invariant.0 in
    (c.loop-q.invariant.0, c.loop-q.invariant.1, part_more c.args.e.now c.args.best.now c.args.p c.args.u c.args.n c.loop-q.q _ c.loop-q.sum c.lay_entry-sum.result place c.loop-q.invariant.2 c.lay_entry-sum.ensures.value.0, omega (arith, c.loop-q.invariant.3, c.lay_entry-sum.ensures.value.1), tallied_more c.args.e.now c.args.best.now c.args.p c.args.u c.args.n c.loop-q.q _ c.loop-q.tally c.lay_entry-sum.new.tally place c.loop-q.invariant.4 c.lay_entry-sum.ensures.laid, c.lay_entry-sum.ensures.laid.long ∙ c.loop-q.invariant.5)

pub returns-clause-tallied : goal.returns-clause-tallied
returns-clause-tallied c = tallied_all c.args.e.now c.args.best.now c.args.p c.args.u c.args.n c.loop-q.q c.loop-q.tally (omega arith) c.loop-q.invariant.4

pub returns-clause-value : goal.returns-clause-value
returns-clause-value c =
    (part_all c.args.e.now c.args.best.now c.args.p c.args.u c.args.n c.loop-q.q c.loop-q.sum (omega arith) c.loop-q.invariant.2, ceiling_few c.args.e.now c.args.best.now c.args.p c.args.u c.args.n c.requires.shaped.0 c.requires.shaped.2 c.requires.shaped.3 c.requires.by_index.3)
