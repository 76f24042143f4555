use mathlib.Core.Path.{◌≡◌}
use Prim.Native.Nat.{◌≤◌}
use lib.ListN.{length}
use Rattle.least.specs.Lists.{values}
use Rattle.rules.specs.Valid.{Valid}
use Rattle.nets.specs.Nets.{count_in, length_in, net_in}
use Rattle.entries.specs.Rows.{near_to, weight_to, equal_at}
use Rattle.sheets.specs.Sheets.{from_on}
use Rattle.frames.proofs.Frames.{Going}
use Rattle.entries.proofs.Rows.{Shared}
use Rattle.sheets.proofs.write_equal.Given as goal

abbrev pub invariant-loop-p : goal.invariant-loop-p
invariant-loop-p l = (length l.sheet ≡ length l.initial.sheet) × (l.weight ≤ 65535) × (l.weight ≡ weight_to l.set.net.now l.a l.b l.p) × Shared l.set.net.now l.a l.b l.first (near_to l.set.net.now l.a l.b) l.p l.g
    × Going (Valid (net_in l.set.net.now)) (count_in l.set.net.now) (length_in l.set.net.now l.a) (from_on l.first (equal_at l.set.net.now l.a l.b (values l.replies) l.first)) l.initial.sheet l.sheet l.p
