use mathlib.Core.Path.{sym, ◌∙◌}
use borrow.Author.Rules.{rules}
use Rattle.flows.proofs.Arrays.{length_of-map}
use Rattle.row.proofs.Arrays.{search_more, search_here, search_past}
use Rattle.row.proofs.first.Goals as goal

pub returns-then-test-clause-value : goal.returns-then-test-clause-value
returns-then-test-clause-value g c = λ p h.
    search_here _ p _ _ _ (search (length_of-map, c.well_formed)) c.size-n.ensures.value (c.loop-k.invariant p h) (search rules) (sym (h _ _ c.test.ensures) ∙ c.if-test.true)

pub loop-k-preserved : goal.loop-k-preserved
loop-k-preserved g c = λ p h.
    search_more _ p _ _ _ (search (length_of-map, c.well_formed)) c.size-n.ensures.value (c.loop-k.invariant p h) (search rules) (sym (h _ _ c.test.ensures) ∙ c.if-test.false)

pub returns-clause-value : goal.returns-clause-value
returns-clause-value g c = λ p h. search_past _ _ _ _ c.size-n.ensures.value (search rules) (search rules) (c.loop-k.invariant p h)
