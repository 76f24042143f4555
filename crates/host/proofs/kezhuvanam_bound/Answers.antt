use Rattle.host.proofs.Numbers.{no_bound, bounded}
use Rattle.host.proofs.Promises.{bound_promise}
use borrow.Author.Rules.{rules}
use Rattle.host.proofs.kezhuvanam_bound.Goals as goal

pub returns-then-number-gt255 : goal.returns-then-number-gt255
returns-then-number-gt255 c = record { value = search (no_bound, rules); bounds = search (bound_promise, no_bound, rules) }

pub returns : goal.returns
returns c = record { value = search (bounded, rules); bounds = search (bound_promise, bounded, rules) }
