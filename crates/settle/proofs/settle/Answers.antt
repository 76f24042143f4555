use mathlib.Core.Path.{refl}
use native.Mathlib.Omega.{arith}
use Rattle.settle.proofs.Room.{room_kept}
use Rattle.settle.proofs.Rest.{settling_start, settling_past, settling_more, settling_end}
use Rattle.settle.proofs.settle.Goals as goal

pub loop-chosen-init : goal.loop-chosen-init
loop-chosen-init c = record {
  settling = settling_start _ _ _ _ _ _ (c.fill.ensures.after (λ y e. e)) (c.fill-2.ensures.after (λ y e. e)) (omega (arith, c.requires.2.marks_long)) _ c.choose-chosen.ensures;
  room = room_kept c.requires.2 c.fill.ensures.len c.fill-2.ensures.len refl refl refl refl c.requires.2.sheet_small c.requires.2.slots_small;
}

pub loop-chosen-preserved : goal.loop-chosen-preserved
loop-chosen-preserved c = record {
  settling = settling_more _ _ _ _ _ c.loop-chosen.invariant.settling _ _ _ c.in_default-turn.ensures.turn_is c.turn.ensures.room.1 _ c.choose-chosen-in-Some.ensures;
  room = c.turn.ensures.room.0;
}

pub returns-in-Err-clause-settle_is : goal.returns-in-Err-clause-settle_is
returns-in-Err-clause-settle_is c =
    settling_past _ _ _ _ _ c.loop-chosen.invariant.settling _ _ _ _ c.in-Err.ensures.turn_is _ _ (c.fill-in-Err.ensures.after (λ y e. e))

pub returns-clause-settle_is : goal.returns-clause-settle_is
returns-clause-settle_is c = settling_end _ _ _ _ (rw c.in_default.is at c.loop-chosen.invariant.settling)
