use Rattle.crossings.proofs.Meeting.{first_meets}
use Rattle.crossings.proofs.Crossings.meet.Goals as goal

pub returns : goal.returns
returns c = search first_meets
