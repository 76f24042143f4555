use mathlib.Core.Path.{refl}
use native.Mathlib.Omega.{arith}
use Rattle.least.specs.Lists.{values}
use Rattle.sheets.proofs.Writing.{filled_sheet, filled_shaped}
use Rattle.sheets.proofs.write.Goals as goal

pub loop-b-init : goal.loop-b-init
loop-b-init c = (refl, c.begin.ensures.by_index (values c.args.replies.now))

pub returns-clause-sheet_is : goal.returns-clause-sheet_is
returns-clause-sheet_is c = filled_sheet c.requires.0 (omega arith) c.loop-b.invariant.1

pub returns-clause-shaped : goal.returns-clause-shaped
returns-clause-shaped c = filled_shaped c.requires.0 (omega arith) c.loop-b.invariant.1 (omega arith)
