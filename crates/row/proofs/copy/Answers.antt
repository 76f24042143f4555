use mathlib.Core.Path.{◌≡◌}
use native.Mathlib.Omega.{arith}
use lib.ListN.{length}
use borrow.Author.Rules.{rules}
use Rattle.flows.specs.Lists.{most_flows}
use Rattle.flows.proofs.Arrays.{length_of-map}
use Rattle.row.proofs.Parts.{copy-none, copy_more, copy_end}
use Rattle.row.proofs.Arrays.{append_count}
use Rattle.row.proofs.copy.Goals as goal

pub loop-k-init : goal.loop-k-init
loop-k-init c = (search rules, search rules, λ fs e. copy-none _ fs c.args.row.flows c.args.a e)

pub loop-k-preserved : goal.loop-k-preserved
loop-k-preserved c =
    let l : length c.args.row.flows ≡ most_flows = search length_of-map in (search rules, omega (arith, append_count _ _ _ c.append-to.ensures (omega arith)), λ fs e. copy_more _ _ fs c.args.row.flows c.args.a c.loop-k.k _ (search rules) (omega arith) (omega arith) c.append-to.ensures (c.loop-k.invariant.2 fs e))

pub returns : goal.returns
returns c =
    record { count_value = omega arith; value = λ fs e. copy_end _ fs c.args.row.flows c.args.a c.args.b c.loop-k.k (omega arith) (c.loop-k.invariant.2 fs e) }
