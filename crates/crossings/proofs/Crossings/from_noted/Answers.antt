use Rattle.crossings.proofs.Crossings.from_noted.Goals as goal

pub invariant_of-result : goal.invariant_of-result
invariant_of-result c = record { noted = c.requires }
