use mathlib.Core.Path.{◌≡◌}
use lib.ListN.{length}
use Rattle.rules.specs.Valid.{Valid}
use Rattle.nets.specs.Nets.{count_in, length_in, net_in}
use Rattle.frames.proofs.Frames.{Heads}
use Rattle.sheets.proofs.Writing.{base_at, add_at}
use Rattle.sheets.proofs.begin.Given as goal

abbrev pub invariant-loop-p : goal.invariant-loop-p
invariant-loop-p l = (length l.sheet ≡ length l.initial.sheet) × Heads (Valid (net_in l.net)) (count_in l.net) (length_in l.net l.a) (base_at l.net l.a) (add_at l.net l.a) l.sheet l.p
