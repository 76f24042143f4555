use mathlib.Core.Path.{refl, ap}
use Rattle.std.specs.Prelude.{Err}
use Rattle.flows.specs.declared.Cause.TheVariants.{Crossing, NoBusyLength}
use Rattle.engine.specs.Verdicts.{Verdict}
use Rattle.engine.proofs.Room.{room_enough}
use Rattle.engine.proofs.Judging.{judge_meant, crossing_said, overload_said, unsettled_said, figures_said}
use Rattle.engine.proofs.judge.Goals as goal

pub find-found-requires : goal.find-found-requires
find-found-requires c = room_enough c.picture.new.net c.picture.ensures.shape.1 c.picture.ensures.shape.2 c.picture.ensures.shape.3

pub returns-in-Err-Misplaced : goal.returns-in-Err-Misplaced
returns-in-Err-Misplaced c =
    let found = rw (c.in-Err-Misplaced.is, rw c.in-Err-Misplaced.is at c.in-Err-Misplaced.field-0-is) at c.find-found.ensures.finding_is in
    let pair = judge_meant _ _ _ _ (λ v. crossing_said _ _ _ v c.picture.new.net c.picture.ensures.numbers _ _ found (ap (λ k. let w : Verdict = Err (Crossing k) in w) c.number_at.ensures)) in
    record { value = pair.0; meant = pair.1 }

pub returns-in-Err-Overloaded : goal.returns-in-Err-Overloaded
returns-in-Err-Overloaded c =
    let found = rw (c.in-Err-Overloaded.is, rw c.in-Err-Overloaded.is at c.in-Err-Overloaded.field-0-is) at c.find-found.ensures.finding_is in
    let pair = judge_meant _ _ _ _ (λ v. overload_said _ _ _ v c.picture.new.net c.picture.ensures.numbers _ found.0 _ _ found.1 (ap (λ k. let w : Verdict = Err (NoBusyLength k) in w) c.number_at-in-Err-Overloaded.ensures)) in
    record { value = pair.0; meant = pair.1 }

pub returns-in-Err-Past : goal.returns-in-Err-Past
returns-in-Err-Past c =
    let found = rw (c.in-Err-Past.is, rw c.in-Err-Past.is at c.in-Err-Past.field-0-is) at c.find-found.ensures.finding_is in
    let pair = judge_meant _ _ _ _ (λ v. unsettled_said _ _ _ v c.picture.new.net c.picture.ensures.numbers _ found.0 _ _ found.1 refl) in
    record { value = pair.0; meant = pair.1 }

pub returns-in-Ok : goal.returns-in-Ok
returns-in-Ok c =
    let found = c.in-Ok.ensures.finding_is in
    let pair = judge_meant _ _ _ _ (λ v. figures_said _ _ _ v c.picture.new.net c.picture.ensures.numbers _ _ found.1 c.picture.ensures.shape.1 c.picture.ensures.shape.2 c.figures_of.result c.figures_of.ensures found.0 _ c.judge_figures.ensures) in
    record { value = pair.0; meant = pair.1 }
