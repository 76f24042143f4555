use Rattle.flows.proofs.Arrays.{length_of-map}
use Rattle.row.proofs.Parts.{remove_made}
use Rattle.row.proofs.remove.Goals as goal

pub returns : goal.returns
returns c =
    remove_made c.args.row (search (length_of-map, c.well_formed)) _ c.size-n.ensures.value _ c.place-at.ensures.upper_bound _ _ c.none-start.ensures.value c.copy-before.ensures.value _ _ c.place-at.ensures.value c.copy.ensures.value
