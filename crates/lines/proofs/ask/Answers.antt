use Rattle.lines.proofs.Arrays.{ask_here, ask_more, ask_end}
use Rattle.lines.proofs.Promises.{ask_promise}
use Rattle.lines.proofs.ask.Goals as goal

pub returns-then-line-number : goal.returns-then-line-number
returns-then-line-number c = record { value = search ask_here; report_asked = search (ask_promise, ask_here) }

pub loop-line-preserved : goal.loop-line-preserved
loop-line-preserved c = search ask_more

pub returns : goal.returns
returns c = record { value = search ask_end; report_asked = search (ask_promise, ask_end) }
