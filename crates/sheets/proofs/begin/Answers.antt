use mathlib.Core.Path.{◌∙◌}
use Prim.Native.Nat.{◌+◌}
use native.Mathlib.Omega.{arith}
use lib.ListN.{length-set}
use Rattle.frames.proofs.Frames.{heads_more}
use Rattle.sheets.proofs.Writing.{heads_filled}
use Rattle.sheets.proofs.begin.Goals.{After-block-at}
use Rattle.sheets.proofs.begin.Goals as goal

pub loop-p-preserved : goal.loop-p-preserved
loop-p-preserved c = (
  simp length-set (c.loop-p.invariant.0 ∙ simp length-set),
  heads_more c.block-at.result c.base.result (c.cost.result + c.jitter.result) c.loop-p.invariant.1 (omega arith) c.block-at.ensures.value (omega arith)
      (omega arith) c.base.ensures.value (λ v. omega arith),
)

pub returns-clause-by_index : goal.returns-clause-by_index
returns-clause-by_index c =
    λ φ. heads_filled c.args.net.now φ c.args.a c.requires.1 c.loop-p.invariant.1 (omega arith)
