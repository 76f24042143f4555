use mathlib.Core.Path.{refl, ◌∙◌}
use Rattle.least.proofs.Stores.{inside-none, inside-twice, filled_all, filled_inside}
use Rattle.starts.proofs.Kept.{kept_on}
use Rattle.starts.proofs.Tries.{small-zeros, tried-none, tried_past, tried_next}
use Prim.Native.Nat.{◌+◌, ◌≤◌}
use lib.ListN.{length}
use native.Mathlib.Omega.{arith}
use Rattle.starts.proofs.responses.Goals as goal

pub loop-u-init : goal.loop-u-init
loop-u-init c =
    let filled = c.fill.ensures.after (λ y h. h) in
    let zeros = filled_all c.args.slots.now c.fill.new.self (c.args.m + 2) 0 c.requires.shaped.4 filled in
    let inside = filled_inside c.args.slots.now c.fill.new.self (c.args.m + 2) 0 c.requires.shaped.4 filled in
    (tried-none c.args.e.now c.args.m c.args.from c.args.end _ c.args.best.now c.requires.shaped.1 (small-zeros _ _ _ c.requires.shaped.3 inside zeros) zeros c.requires.shaped.7, refl, inside-none, refl, λ h. absurd (omega arith))

pub returns-in-Err-clause-responses_are : goal.returns-in-Err-clause-responses_are
returns-in-Err-clause-responses_are c =
    let room : c.args.m + c.args.m ≤ length c.instant.new.best = omega (arith, c.instant.ensures.low_to.1.long, c.loop-u.invariant.2.long, c.requires.shaped.5) in
    tried_past c.args.e.now c.args.m c.args.from c.args.end c.args.best.now c.loop-u.slots c.loop-u.best c.loop-u.u c.loop-u.invariant.0 c.loop-u-test.true c.instant.new.slots c.instant.new.best c.instant.result c.instant.ensures.instant_is _ c.in-Err.is _ (filled_all c.instant.new.best c.fill-in-Err.new.self (c.args.m + c.args.m) 0 room (c.fill-in-Err.ensures.after (λ y h. h)))

pub loop-u-preserved : goal.loop-u-preserved
loop-u-preserved c =
    (tried_next c.args.e.now c.args.m c.args.from c.args.end c.args.best.now c.loop-u.slots c.loop-u.best c.loop-u.u c.loop-u.invariant.0 c.loop-u-test.true c.instant.new.slots c.instant.new.best c.instant.result c.instant.ensures.instant_is _ c.in_default.is c.instant.ensures.small.0 c.instant.ensures.low_to.0 c.requires.shaped.0.looks c.keep-next.result c.keep-next.ensures.kept_now.1, c.instant.ensures.small.1 ∙ c.loop-u.invariant.1, inside-twice c.loop-u.invariant.2 c.instant.ensures.low_to.1, c.keep-next.ensures.steps_len_unchanged ∙ c.loop-u.invariant.3, λ h. kept_on c.args.e.now c.args.stride c.args.end c.loop-u.u c.args.m c.keep-next.result c.keep-next.new.steps c.keep-next.ensures.kept_now.0 c.keep-next.ensures.kept_now.1)
