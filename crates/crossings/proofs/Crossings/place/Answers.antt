use native.Mathlib.Omega.{arith}
use Rattle.crossings.proofs.Noting.{place_most}
use Rattle.crossings.proofs.Crossings.place.Goals as goal

pub returns-clause-upper_bound : goal.returns-clause-upper_bound
returns-clause-upper_bound c = grind (arith, place_most)
