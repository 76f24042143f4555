use Prim.Native.Nat.{◌+◌}
use native.Mathlib.Omega.{arith}
use Rattle.least.proofs.Stores.{ahead_set}
use Rattle.crossings.proofs.Noting.{places_more, place_made}
use Rattle.crossings.specs.Pairs.{place_on}
use Rattle.crossings.proofs.note_places.Goals as goal

pub loop-k-preserved : goal.loop-k-preserved
loop-k-preserved c = (
  ahead_set c.pair_at-at.result _ _ c.loop-k.invariant.0 (c.pair_at-at.result + c.loop-k.k) _ (omega arith),
  places_more (place_on c.args.net.now c.args.a c.args.b) c.loop-k.pairs c.pair_at-at.result c.loop-k.k _ (omega arith)
      (place_made c.args.net.now c.args.a c.args.b c.loop-k.k _ _ c.position.ensures.value c.node.ensures.value) c.loop-k.invariant.1,
)
