use mathlib.Core.Path.{◌≡◌, refl, sym, ◌∙◌}
use Prim.Native.Nat.{suc, ◌+◌, ◌<◌}
use native.Mathlib.Omega.{arith}
use Rattle.least.specs.Lists.{values}
use Rattle.least.proofs.Ranges.{max_to_next}
use Rattle.nets.specs.Nets.{length_in}
use Rattle.crossings.specs.Pairs.{cost_on}
use Rattle.entries.specs.Rows.{last_to, higher_at}
use Rattle.entries.proofs.Running.{last_below}
use Rattle.frames.proofs.Frames.{frame_less, going_from, going_end, going_room, going_more}
use Rattle.entries.proofs.Rows.{Shared, shared_first, last_more, weight_none, higher_made}
use Rattle.sheets.proofs.Writing.{from_none, from_one}
use Rattle.sheets.proofs.write_higher.Goals.{In-loop-p, After-later-last}
use Rattle.sheets.proofs.write_higher.Goals as goal

inside : (c : In-loop-p) →
    c.loop-p.p < length_in c.args.set.now.net.now c.args.a
inside c = omega arith

next : (c : After-later-last) →
    (c.later-last.result ≡ last_to c.args.set.now.net.now c.args.a c.args.b (suc c.loop-p.p)) × Shared c.args.set.now.net.now c.args.a c.args.b c.first-first.result (last_to c.args.set.now.net.now c.args.a c.args.b) (c.loop-p.p + 1) c.later-last.result
next c =
    last_more c.args.set.now.net.now c.args.a c.args.b c.first-first.result c.first-first.ensures c.loop-p.auto.p (omega arith) c.loop-p.invariant.3 c.later-last.ensures

pub returns-then-m-first-clause-joined : goal.returns-then-m-first-clause-joined
returns-then-m-first-clause-joined c =
    let g = going_end (omega arith) (going_from c.requires.1 c.first-first.result (λ k h. from_none c.first-first.result (higher_at c.args.set.now.net.now c.args.a c.args.b (values c.args.replies.now) c.first-first.result) k h)) in
    record { place = c.first-first.result; first = c.first-first.ensures; grown = g }

pub loop-p-init : goal.loop-p-init
loop-p-init c = (
  refl,
  omega arith,
  sym (weight_none c.args.set.now.net.now c.args.a c.args.b c.first-first.result c.first-first.ensures c.first-first.result (omega arith)),
  shared_first c.args.set.now.net.now c.args.a c.args.b c.first-first.result c.first-first.ensures (last_to c.args.set.now.net.now c.args.a c.args.b) (omega arith),
  going_from c.requires.1 c.first-first.result (λ k h. from_none c.first-first.result (higher_at c.args.set.now.net.now c.args.a c.args.b (values c.args.replies.now) c.first-first.result) k h),
)

pub look_at-requires : goal.look_at-requires
look_at-requires c = (omega (arith, (next (goal.at.look_at-requires c).After-later-last).0, last_below c.args.set.now.net.now c.args.a c.args.b c.loop-p.p), omega arith)

pub append-requires : goal.append-requires
append-requires c =
    let i = inside (goal.at.append-requires c).In-loop-p in (
      omega arith,
      frame_less c.loop-p.p i c.loop-p.invariant.4.frame,
      going_room c.requires.1 i c.loop-p.invariant.4,
      c.look_at.ensures.upper_bound,
      omega (arith, c.delay-plus.ensures.upper_bound),
      omega (arith, c.least_way-way.ensures.upper_bound, c.smallest.ensures.upper_bound),
      omega (arith, c.period-period.ensures.upper_bound),
      omega (arith, c.heavier-weight.ensures.upper_bound),
    )

pub loop-p-preserved : goal.loop-p-preserved
loop-p-preserved c =
    let r = values c.args.replies.now in
    let i = inside (goal.at.loop-p-preserved c).In-loop-p in
    let n = next (goal.at.loop-p-preserved c).After-later-last in
    let w = max_to_next (cost_on c.args.set.now.net.now c.args.a c.args.b) c.loop-p.p c.loop-p.invariant.2 refl c.heavier-weight.ensures.value in (
      c.append.ensures.sheet_len_unchanged ∙ c.loop-p.invariant.0,
      c.heavier-weight.ensures.upper_bound,
      w,
      n.1,
      going_more c.requires.1 i c.loop-p.invariant.4 (from_one c.first-first.result (higher_at c.args.set.now.net.now c.args.a c.args.b r c.first-first.result) c.loop-p.p c.loop-p.auto.p) c.append.ensures.appended c.append.ensures.sheet_len_unchanged
          c.look_at.ensures.upper_bound (λ v.
          higher_made c.args.set.now.net.now c.args.a c.args.b r c.first-first.result c.loop-p.p c.delay-plus.ensures.value (c.smallest.ensures.value v) c.period-period.ensures.value w n.0 c.look_at.ensures.value (c.least_way-way.ensures.value v)),
    )

pub returns-clause-joined : goal.returns-clause-joined
returns-clause-joined c = record { place = c.first-first.result; first = c.first-first.ensures; grown = going_end (omega arith) c.loop-p.invariant.4 }
