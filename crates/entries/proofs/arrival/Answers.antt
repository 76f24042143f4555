use mathlib.Core.Path.{refl}
use native.Mathlib.Omega.{arith}
use Rattle.least.specs.Lists.{values}
use Rattle.entries.proofs.Places.{arrival_first, arrival_later}
use Rattle.entries.proofs.arrival.Goals as goal

pub returns-then-q-eq0-clause-value : goal.returns-then-q-eq0-clause-value
returns-then-q-eq0-clause-value c = arrival_first c.args.net.now (values c.args.replies.now) c.args.b c.args.q (omega arith)

pub returns-clause-value : goal.returns-clause-value
returns-clause-value c =
    arrival_later c.args.net.now (values c.args.replies.now) c.args.b c.args.q _ _ _ c.if-q-eq0.false c.lmax.ensures.value c.room.ensures.value refl
