use Rattle.least.specs.Lists.{values}
use Rattle.blocks.specs.Sheet.{instant_slot}
use Rattle.blocks.proofs.Terms.{instant_sum_small}
use Rattle.blocks.proofs.Looks.{look_never}
use native.Mathlib.Omega.{arith}
use Rattle.blocks.proofs.sum_at.Goals as goal

pub returns-then-looks-eq0 : goal.returns-then-looks-eq0
returns-then-looks-eq0 c =
    let v = values c.args.v.now in
    record { value = look_never c.args.e.now c.args.p v c.args.looks c.args.kept c.requires.4 (omega arith) c.requires.3; upper_bound = omega (arith, c.requires.3, instant_sum_small c.args.e.now c.args.p (v instant_slot) c.requires.0.small (c.requires.1 instant_slot) (c.requires.0.few c.args.p (omega arith))) }
