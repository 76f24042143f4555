use Prim.Native.Nat.{◌+◌, ◌<◌}
use native.Mathlib.Nat.{mul-le-mul_right}
use native.Mathlib.Omega.{arith}
use lib.ListN.{length}
use borrow.Author.Rules.{rules}
use Rattle.nets.specs.Nets.{room_in, length_in}
use Rattle.least.specs.Fold.{sum_to}
use Rattle.terms.specs.Whole.{smin_over, way_over, term5_over}
use Rattle.ways.proofs.Noting.{smin_more, way_more, term5_more, going_start, going_more}
use Rattle.ways.proofs.note_flow.Goals.{After-lower_less_one-term5}
use Rattle.ways.proofs.note_flow.Goals as goal

room : (c : After-lower_less_one-term5) →
    c.way_at-at.result + 2 < length c.loop-k.ways
room c =
    omega (arith, mul-le-mul_right (room_in c.args.set.now.net.now) c.requires.0, c.requires.1, c.loop-k.invariant.0.ahead.long, c.way_at-at.ensures.value, c.hops-m.ensures.value)

pub loop-k-init : goal.loop-k-init
unfolding sum_to smin_over way_over term5_over
loop-k-init c = (going_start _ _ _, search rules, search rules, search rules, search rules, search rules, search rules)

pub loop-k-preserved : goal.loop-k-preserved
loop-k-preserved c =
    let on : c.loop-k.k < length_in c.args.set.now.net.now c.args.a = omega (arith, c.loop-k-test, c.hops-m.ensures.value) in (
      going_more c.args.set.now.net.now c.args.ways.now c.loop-k.ways c.args.a c.loop-k.k c.requires.0 on c.loop-k.invariant.0 c.way_at-at.result
          c.way_at-at.ensures.value (room (goal.at.loop-k-preserved c).After-lower_less_one-term5) c.loop-k.smin c.loop-k.invariant.2 (omega (arith, c.loop-k.invariant.1)) c.loop-k.way c.loop-k.invariant.4 (omega (arith, c.loop-k.invariant.3)) (c.loop-k.term5 + c.lower_less_one-term5.result)
          (omega (arith, c.loop-k.invariant.6, c.lower_less_one-term5.ensures.value, term5_more c.args.set.now.net.now c.args.a c.loop-k.k)) c.base_of.result c.base_of.ensures.value c.base_of.ensures.upper_bound,
      omega (arith, c.loop-k.invariant.1, c.cost.ensures.upper_bound),
      omega (arith, c.loop-k.invariant.2, smin_more c.args.set.now.net.now c.args.a c.loop-k.k, c.cost.ensures.value),
      omega (arith, c.loop-k.invariant.3),
      omega (arith, c.loop-k.invariant.4, way_more c.args.set.now.net.now c.args.a c.loop-k.k),
      omega (arith, c.loop-k.invariant.5, c.lower_less_one-term5.ensures.upper_bound),
      omega (arith, c.loop-k.invariant.6, c.lower_less_one-term5.ensures.value, term5_more c.args.set.now.net.now c.args.a c.loop-k.k),
    )
