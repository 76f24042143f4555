use native.Mathlib.Omega.{arith}
use Rattle.nets.specs.Nets.{count_in}
use Rattle.frames.proofs.Frames.{stored-appended}
use Rattle.frames.proofs.append.Goals as goal

pub returns-clause-appended : goal.returns-clause-appended
returns-clause-appended c =
    stored-appended (count_in c.args.net.now) c.args.p c.args.sheet.now c.requires.1 c.requires.2 c.block-at.result c.block-at.ensures.value
    c.args.look c.args.plus c.args.less c.args.period c.args.weight (omega arith) (omega (arith, c.requires.3)) c.requires.4 c.requires.5 c.requires.6 c.requires.7
