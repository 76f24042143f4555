use mathlib.Core.Path.{◌≡◌, sym, ap, ◌∙◌, subst}
use Prim.Native.Nat.{ℕ, ◌+◌, ◌*◌, ◌≤◌, ◌<◌}
use mathlib.Core.List.{List}
use native.Mathlib.Nat.{mul-le-mul}
use native.Mathlib.Omega.{arith}
use lib.ListN.{length, length-set}
use Rattle.least.specs.Lists.{values}
use Rattle.nets.specs.Nets.{count_in, room_in}
use Rattle.blocks.specs.Sheet.{Shaped}
use Rattle.rounds.proofs.Windows.{reach_last}
use Rattle.settle.specs.Turns.{Room}
use Rattle.settle.proofs.Room.{steps_fit, room_kept}
use Rattle.settle.proofs.Work.{whole, turned_set, turned_behind, Ran, turn_past, turn_still, raised_fair, turn_raised}
use Rattle.settle.proofs.turn.Goals.{After-room, After-look}
use Rattle.settle.proofs.turn.Goals as goal

copied : (l to : List ℕ) (at m : ℕ) → ((k : ℕ) → k < m → values to (0 + k) ≡ values l (at + k)) → (k : ℕ) → k < m → values to k ≡ values l (at + k)
copied l to at m c k h = let z : 0 + k ≡ k = omega arith in subst (λ i. values to i ≡ values l (at + k)) z (c k h)

ran : (c : After-look) →
    Ran c.args.set.now.net.now c.args.busies.now c.args.replies.now c.args.marks.now c.args.a c.write.new.sheet c.hops-m.result c.reach-far.result c.copy-2.new.to c.look.result c.look.new.best
ran c =
    record {
      on = c.requires.0;
      written = c.write.ensures.sheet_is;
      long = c.hops-m.ensures.value;
      held = λ k h. c.copy-2.ensures.inside.before k h ∙ copied c.args.replies.now c.copy.new.to _ _ c.copy.ensures.by_index k h ∙ ap (λ i. values c.args.replies.now (c.args.a * i + k)) c.room.ensures.value;
      look = c.look.ensures.look_is;
      last = λ h. omega (arith, c.reach-far.ensures.value, reach_last _ c.count_steps.result (values c.args.busies.now c.args.a) h);
    }

kept-room : (c : After-look) {replies' marks' : List ℕ} → length replies' ≡ length c.args.replies.now → length marks' ≡ length c.args.marks.now →
    Room c.args.set.now.net.now c.args.busies.now replies' marks' c.write.new.sheet c.look.new.slots c.look.new.steps c.look.new.best
kept-room c l k =
    room_kept c.requires.3 l k c.write.ensures.sheet_len_unchanged c.look.ensures.small.1 c.look.ensures.steps_len_unchanged (c.look.ensures.best_len_unchanged ∙ c.copy-2.ensures.inside.long ∙ c.copy.ensures.inside.long) c.write.ensures.shaped.small c.look.ensures.small.0

first_low : (c : After-room) → c.args.a * c.room.result ≤ 4000
first_low c = omega (arith, mul-le-mul {n₁ = c.args.a} {m₁ = c.room.result} {n₂ = 63} {m₂ = 63} (omega arith) c.room.ensures.upper_bound)

places_in : (c : After-room) → c.args.a * c.room.result + c.hops-m.result ≤ count_in c.args.set.now.net.now * room_in c.args.set.now.net.now
places_in c =
    omega (arith, ap (λ k. c.args.a * k) c.room.ensures.value, whole (room_in c.args.set.now.net.now) c.hops-m.result c.args.a (count_in c.args.set.now.net.now) c.hops-m.ensures.upper_bound.0 c.requires.0)

pub look-requires : goal.look-requires
look-requires c = record {
  shaped = (
    subst (Shaped c.write.new.sheet) (sym c.hops-m.ensures.value) c.write.ensures.shaped,
    c.requires.2 c.args.a c.requires.0,
    c.reach-far.ensures.upper_bound,
    c.requires.3.slots_small,
    omega arith,
    omega arith,
    omega arith,
    λ p q. omega (arith, c.copy-2.ensures.inside.before p q, copied c.args.replies.now c.copy.new.to _ _ c.copy.ensures.by_index p q, c.requires.4.low (c.args.a * c.room.result + p)),
    omega (arith, places_in (goal.at.look-requires c).After-room),
    omega (arith, first_low (goal.at.look-requires c).After-room),
  );
  strided = steps_fit c.requires.3 c.write.new.sheet c.hops-m.result c.count-n.result c.hops-m.ensures.upper_bound.0 c.count-n.ensures.value (λ p q. c.write.ensures.by_index p (omega arith));
}

pub returns-in_err-look-clause-turn_is : goal.returns-in_err-look-clause-turn_is
returns-in_err-look-clause-turn_is c =
    turn_past (ran (goal.at.returns-in_err-look-clause-turn_is c).After-look) c.in_err-look.was c.from_residual.result c.from_residual.ensures.0

pub returns-then-not-rose : goal.returns-then-not-rose
returns-then-not-rose c =
    let first = ap (λ k. c.args.a * k) c.room.ensures.value in
    let k = turn_still (ran (goal.at.returns-then-not-rose c).After-look) c.in_ok-look.was first c.raise-rose.ensures c.turns_left.ensures c.requires.4 (turned_set c.args.marks.now c.args.a c.turns_left.result (omega arith)) c.if-not-rose.true in
    record { turn_is = k.0; room = (kept-room (goal.at.returns-then-not-rose c).After-look c.raise-rose.ensures.others.long (length-set c.args.marks.now c.args.a c.turns_left.result), k.1) }

pub returns : goal.returns
returns c =
    let first = ap (λ kx. c.args.a * kx) c.room.ensures.value in
    let turned = turned_behind (omega arith) c.copy-3.ensures.inside c.requires.0 (turned_set c.args.marks.now c.args.a c.turns_left.result (omega arith)) in
    record { turn_is = turn_raised (ran (goal.at.returns c).After-look) c.in_ok-look.was first c.raise-rose.ensures c.turns_left.ensures c.requires.4 turned c.mark.ensures c.if-not-rose.false; room = (kept-room (goal.at.returns c).After-look c.raise-rose.ensures.others.long (c.mark.ensures.others.long ∙ c.copy-3.ensures.inside.long ∙ length-set c.args.marks.now c.args.a c.turns_left.result), raised_fair (ran (goal.at.returns c).After-look) c.in_ok-look.was first c.raise-rose.ensures c.turns_left.ensures c.requires.4 turned c.mark.ensures) }
