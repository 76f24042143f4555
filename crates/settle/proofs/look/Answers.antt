use native.Mathlib.Omega.{arith}
use borrow.Author.Rules.{rules}
use Rattle.settle.proofs.Looks.{look_all, look_more, look_past}
use Rattle.settle.proofs.look.Goals as goal

pub returns-then-busy-far-clause-look_is : goal.returns-then-busy-far-clause-look_is
returns-then-busy-far-clause-look_is c = look_all _ _ _ _ _ _ _ c.responses.ensures.responses_are

pub returns-in_err-responses-clause-look_is : goal.returns-in_err-responses-clause-look_is
returns-in_err-responses-clause-look_is c =
    look_past _ _ _ _ _ (omega arith) _ c.loop-p.invariant.look_is _ _ _ c.in_err-responses.field-0.0 c.in_err-responses.ensures.responses_are _ c.from_residual.ensures.0

pub loop-p-preserved-then-far-abs_diff : goal.loop-p-preserved-then-far-abs_diff
loop-p-preserved-then-far-abs_diff c =
    record { look_is = look_more _ _ _ _ _ (omega arith) _ c.loop-p.invariant.look_is _ _ _ c.in_ok-responses.ensures.responses_are; small = search rules }
