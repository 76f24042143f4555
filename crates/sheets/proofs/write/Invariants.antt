use mathlib.Core.Path.{◌≡◌}
use lib.ListN.{length}
use Rattle.least.specs.Lists.{values}
use Rattle.sheets.specs.Sheets.{Filled}
use Rattle.sheets.proofs.write.Given as goal

abbrev pub invariant-loop-b : goal.invariant-loop-b
invariant-loop-b l = (length l.sheet ≡ length l.initial.sheet) × Filled l.set.net.now (values l.replies) l.a l.b l.sheet
