use mathlib.Core.Path.{refl, ◌∙◌}
use Prim.Native.Nat.{◌<◌}
use native.Mathlib.Omega.{arith}
use Rattle.least.specs.Fold.{max_to}
use Rattle.least.proofs.Ranges.{max_to_next}
use Rattle.nets.specs.Nets.{length_in, hop_in}
use Rattle.frames.proofs.Frames.{frame_less, going_from, going_end, going_room, going_more}
use Rattle.entries.proofs.Rows.{own_made}
use Rattle.sheets.proofs.write_own.Goals.{In-loop-p}
use Rattle.sheets.proofs.write_own.Goals as goal

inside : (c : In-loop-p) →
    c.loop-p.p < length_in c.args.net.now c.args.a
inside c = omega arith

pub loop-p-init : goal.loop-p-init
unfolding max_to
loop-p-init c = (refl, omega arith, refl, going_from c.requires.1 0 (λ k h. absurd (omega arith)))

pub append-requires : goal.append-requires
append-requires c =
    let i = inside (goal.at.append-requires c).In-loop-p in
    let room = going_room c.requires.1 i c.loop-p.invariant.3 in
    (omega arith, frame_less c.loop-p.p i c.loop-p.invariant.3.frame, room, omega arith, omega arith, omega arith, omega arith, omega arith)

pub loop-p-preserved : goal.loop-p-preserved
loop-p-preserved c =
    let w = max_to_next (λ k. (hop_in c.args.net.now c.args.a k).cost) c.loop-p.p c.loop-p.invariant.2 c.cost.ensures.value c.max-weight.ensures in (
      c.append.ensures.sheet_len_unchanged ∙ c.loop-p.invariant.0,
      omega arith,
      w,
      going_more c.requires.1 (inside (goal.at.loop-p-preserved c).In-loop-p) c.loop-p.invariant.3 refl c.append.ensures.appended c.append.ensures.sheet_len_unchanged
          (omega arith) (λ v. own_made c.args.net.now c.args.a c.loop-p.p c.period-period.ensures.value w),
    )

pub returns-clause-grown : goal.returns-clause-grown
returns-clause-grown c = going_end (omega arith) c.loop-p.invariant.3
