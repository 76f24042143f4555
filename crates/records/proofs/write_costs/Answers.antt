use borrow.Author.Rules.{rules}
use Rattle.records.specs.Bodies.{words_written}
use lib.Seq.{take_all}
use Rattle.records.proofs.write_costs.Goals as goal

pub loop-k-init : goal.loop-k-init
unfolding words_written
loop-k-init c = search rules

pub returns : goal.returns
returns c = search (rules, take_all)
