use lib.Seq.{get_or-set_same}
use lib.ListN.{set, length-set}
use mathlib.Core.Path.{◌≡◌, sym, ap, subst}
use Prim.Native.Nat.{◌+◌, ◌*◌}
use Rattle.least.specs.Lists.{values}
use Rattle.blocks.specs.Sheet.{head_size, entry_size, instant_slot, entry_at, Looking}
use Rattle.steps.specs.Kept.{kept_size}
use Rattle.least.proofs.Stores.{inside-set}
use Rattle.steps.proofs.Kept.{headed, entered_none, entered_more, entered_all}
use Rattle.steps.proofs.Sums.{begun_none, begun_more, begun_all}
use borrow.Author.Count.{below_more}
use native.Mathlib.Omega.{arith}
use Rattle.steps.proofs.begin_node.Goals as goal

pub loop-q-init : goal.loop-q-init
loop-q-init c =
    (c.block_at-block.ensures.value, ap (λ x. values c.args.e.now (x + 2)) c.block_at-block.ensures.value, begun_none c.args.e.now c.args.p c.args.u c.block_at-block.result c.block_at-block.ensures.value, c.requires.0.small c.block_at-block.result, entered_none c.args.e.now c.args.end c.args.u c.args.p c.args.at c.args.steps.now (omega arith), λ z i h. absurd (omega arith))

pub loop-q-preserved : goal.loop-q-preserved
loop-q-preserved c =
    let place = ap (λ b. b + head_size + c.loop-q.q * entry_size) c.loop-q.invariant.0 in
    (c.loop-q.invariant.0, c.loop-q.invariant.1, begun_more c.args.e.now c.args.p c.args.u c.loop-q.q c.loop-q.sum c.instant_term-sum.result _ place c.loop-q.invariant.2 c.instant_term-sum.ensures.value, omega arith, entered_more c.args.e.now c.args.end c.args.u c.args.p c.args.at c.args.steps.now c.loop-q.steps c.loop-q.next c.loop-q.q c.loop-q.invariant.4 (set c.loop-q.steps (c.args.at + kept_size + c.loop-q.q) c.entry_step-step.result) c.entry_step-step.result c.min-next.result _ place (inside-set c.loop-q.steps (c.args.at + kept_size + c.loop-q.q) c.entry_step-step.result) (get_or-set_same c.loop-q.steps (c.args.at + kept_size + c.loop-q.q) c.entry_step-step.result 0 (omega (arith, c.loop-q.invariant.4.inside.long))) c.entry_step-step.ensures c.min-next.ensures, λ z. below_more (λ i. values c.args.e.now (entry_at c.args.e.now c.args.p i) ≡ instant_slot) c.loop-q.q (c.loop-q.invariant.5 (c.looking-looks.ensures z).0) (omega (arith, ap (values c.args.e.now) place, (c.looking-looks.ensures z).1)))

pub returns-clause-kept_at : goal.returns-clause-kept_at
returns-clause-kept_at c =
    let steps = headed c.loop-q.steps c.args.at c.loop-q.sum c.loop-q.next in
    (entered_all c.args.e.now c.args.end c.args.u c.args.p c.args.at c.args.steps.now c.loop-q.steps c.loop-q.next c.loop-q.q c.loop-q.invariant.4 c.loop-q.sum _ (inside-set steps (c.args.at + 2) c.loop-q.looks) (omega arith)
    (begun_all c.args.e.now c.args.p c.args.u c.loop-q.q c.loop-q.sum c.loop-q.invariant.2 (omega arith))
    (subst (Looking c.args.e.now c.args.p) (sym (get_or-set_same steps (c.args.at + 2) c.loop-q.looks 0 (simp length-set (omega (arith, c.loop-q.invariant.4.inside.long))))) (λ z q h. c.loop-q.invariant.5 z q (omega arith))) (omega arith)).0
