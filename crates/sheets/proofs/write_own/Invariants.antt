use mathlib.Core.Path.{◌≡◌}
use mathlib.Core.List.{[], ◌∷◌}
use Prim.Native.Nat.{◌≤◌}
use lib.ListN.{length}
use Rattle.rules.specs.Valid.{Valid}
use Rattle.nets.specs.Nets.{count_in, length_in, net_in}
use Rattle.entries.specs.Rows.{own_to, own_at}
use Rattle.frames.proofs.Frames.{Going}
use Rattle.sheets.proofs.write_own.Given as goal

abbrev pub invariant-loop-p : goal.invariant-loop-p
invariant-loop-p l = (length l.sheet ≡ length l.initial.sheet) × (l.weight ≤ 65535) × (l.weight ≡ own_to l.net l.a l.p)
    × Going (Valid (net_in l.net)) (count_in l.net) (length_in l.net l.a) (λ k. own_at l.net l.a k ∷ []) l.initial.sheet l.sheet l.p
