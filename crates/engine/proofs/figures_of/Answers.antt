use Rattle.engine.proofs.Tally.{tally_none, tally_more, tally_end}
use borrow.Author.Rules.{rules}
use Rattle.engine.proofs.figures_of.Goals as goal

pub loop-k-init : goal.loop-k-init
loop-k-init c = search tally_none

pub figure-requires : goal.figure-requires
figure-requires c = (c.requires.0 _, c.requires.1 _ (search rules))

pub loop-k-preserved : goal.loop-k-preserved
loop-k-preserved c =
    (tally_more _ _ _ _ c.loop-k.figures c.loop-k.k c.loop-k.invariant (search rules) c.flow_at-f.result c.last_place.result c.figure.result c.flow_at-f.ensures c.last_place.ensures.0 c.figure.ensures)

pub returns : goal.returns
returns c = tally_end _ _ _ _ c.loop-k.figures c.loop-k.k _ c.loop-k.invariant (search rules) (search rules)
