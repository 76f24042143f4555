use Rattle.drawing.proofs.Drawing.{picture_end}
use Rattle.drawing.proofs.picture.Goals as goal

pub returns-clause-numbers : goal.returns-clause-numbers
returns-clause-numbers c = search picture_end
