use Rattle.lines.proofs.Steps.{line_part}
use Rattle.lines.proofs.line_at.Goals as goal

pub returns : goal.returns
returns c = search line_part
