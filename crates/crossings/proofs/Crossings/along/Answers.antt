use Rattle.crossings.proofs.Noting.{not_along, side_along, read_turn}
use Rattle.crossings.proofs.Crossings.along.Goals as goal

pub returns-in-Own : goal.returns-in-Own
returns-in-Own c = not_along _ _ _ _ _ c.side.ensures c.in-Own.is

pub returns-in-Higher : goal.returns-in-Higher
returns-in-Higher c = side_along _ _ _ _ _ c.side.ensures c.in-Higher.is _ (search read_turn)
