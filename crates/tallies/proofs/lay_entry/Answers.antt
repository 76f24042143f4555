use Rattle.tallies.proofs.Sums.{entry_first, entry_laid}
use Prim.Native.Nat.{◌+◌, ◌<◌}
use mathlib.Core.Path.{◌∙◌, ap}
use Rattle.least.specs.Lists.{values}
use native.Mathlib.Omega.{arith}
use Rattle.tallies.proofs.lay_entry.Goals as goal

pub returns : goal.returns
returns c =
    let is = ap (λ x. x + values c.args.e.now (c.args.k + 1)) c.looked.ensures.value in
    let few : c.looked.result + values c.args.e.now (c.args.k + 1) < 67108864 = omega (arith, c.looked.ensures.upper_bound, c.requires.shaped.0.small (c.args.k + 1)) in
    record { laid = entry_laid c.args.e.now c.args.best.now c.args.p c.args.u c.args.k c.requires.shaped.2 _ c.spacing.result is few c.spacing.ensures.by_index c.requires.by_index.0 c.args.n c.requires.by_index.2 c.args.tally.now c.lay.new.tally c.lay.ensures.laid; value = (c.lay.ensures.value.0 ∙ entry_first c.args.e.now c.args.best.now c.args.p c.args.u c.args.k c.requires.shaped.2 _ c.spacing.result is few c.spacing.ensures.by_index, c.lay.ensures.value.1) }
