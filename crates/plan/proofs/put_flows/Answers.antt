use mathlib.Core.Path.{◌≡◌}
use native.Mathlib.Omega.{arith}
use lib.ListN.{length}
use Rattle.flows.specs.Lists.{most_flows}
use Rattle.flows.proofs.Arrays.{length_of-map}
use Rattle.plan.proofs.Puts.{puts_none, puts_more, puts_end}
use Rattle.plan.proofs.put_flows.Goals as goal

pub loop-k-init : goal.loop-k-init
loop-k-init c = search puts_none

pub loop-k-preserved : goal.loop-k-preserved
loop-k-preserved c =
    let l : length c.args.row.flows ≡ most_flows = search (length_of-map, c.well_formed) in
    puts_more c.args.buffer.now c.loop-k.buffer _ c.args.row.flows c.loop-k.k _ (omega arith) (omega arith) c.loop-k.invariant c.put_flow.ensures.f_len c.put_flow.ensures.buffer_after

pub returns : goal.returns
returns c =
    let pair = puts_end c.args.row c.args.buffer.now c.loop-k.buffer _ c.loop-k.k c.size-k-end.ensures.value (omega arith) c.loop-k.invariant in
    record { row_len = pair.0; buffer_after = pair.1 }
