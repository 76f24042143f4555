use mathlib.Core.Path.{ap, ◌∙◌}
use Rattle.crossings.specs.Pairs.{side_number}
use Rattle.crossings.proofs.Noting.{tag_number, pair-stored}
use Rattle.crossings.proofs.note_pair.Goals as goal

pub returns-clause-pair_is : goal.returns-clause-pair_is
returns-clause-pair_is c =
    let pair = pair-stored c.args.net.now c.args.pairs.now c.note_places.new.pairs c.args.a c.args.b c.requires.2 c.note_places.ensures.ahead
    c.note_places.ensures.by_index _ _ _ _ _ _ _ _ c.pair_at-at.ensures.value c.room-w.ensures.value c.hops-m.ensures.value c.hops.ensures.value
    (tag_number c.side_of.result ∙ ap side_number c.side_of.ensures) c.first_below-first.ensures c.below.ensures c.first_below-turn.ensures in
    pair.0
