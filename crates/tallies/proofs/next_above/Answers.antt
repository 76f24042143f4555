use mathlib.Core.Path.{◌≡◌, subst}
use Prim.Native.Nat.{◌+◌}
use native.Mathlib.Omega.{arith}
use Rattle.tallies.proofs.Calm.{CalmFrom, calm_from_on, calm_from_above}
use Rattle.tallies.proofs.next_above.Goals as goal

pub returns-then-calm-n-clause-next_above : goal.returns-then-calm-n-clause-next_above
returns-then-calm-n-clause-next_above c =
    calm_from_above c.args.e.now c.args.best.now c.args.m c.args.from c.loop-u.u c.min-n.result c.calm_to-calm.result c.loop-u.invariant.1 c.calm_to-calm.ensures.calm_to c.args.end (omega arith) c.if-calm-n.true

pub loop-u-preserved : goal.loop-u-preserved
loop-u-preserved c =
    let is : c.calm_to-calm.result ≡ c.min-n.result = omega (arith, c.calm_to-calm.ensures.calm_to.most) in
    let on = calm_from_on c.args.e.now c.args.best.now c.args.m c.args.from c.loop-u.u c.min-n.result c.calm_to-calm.result c.loop-u.invariant.1 c.calm_to-calm.ensures.calm_to in
    (omega arith, subst (λ x. CalmFrom c.args.e.now c.args.best.now c.args.m c.args.from (c.loop-u.u + x)) is on, omega (arith, c.loop-u.invariant.2, c.calm_to-calm.ensures.tally_len_unchanged))
