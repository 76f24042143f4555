use Rattle.crossings.proofs.Meeting.{place_passes}
use Rattle.crossings.proofs.Crossings.passes.Goals as goal

pub returns : goal.returns
returns c = search place_passes
