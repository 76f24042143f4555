use Prim.Native.Nat.{ℕ}
use borrow.Author.Rules.{rules}
use lib.Dec.{eqb}
use Rattle.row.proofs.place.Goals as goal

pub returns-clause-value : goal.returns-clause-value
returns-clause-value c = c.first.ensures.value (λ (n : ℕ). eqb n c.args.number) (λ x b q. search rules)
