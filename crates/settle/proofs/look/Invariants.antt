use Rattle.std.specs.declared.result.Result.TheVariants.{Ok}
use Rattle.blocks.specs.Sheet.{Small}
use Rattle.settle.specs.Turns.{LookIs}
use Rattle.settle.proofs.look.Given as goal

abbrev pub invariant-loop-p : goal.invariant-loop-p
invariant-loop-p l = record {
  look_is : LookIs l.sheet l.m l.far l.busy l.initial.best (Ok tt) l.best;
  small : Small l.slots;
}
