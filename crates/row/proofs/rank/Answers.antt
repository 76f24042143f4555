use Prim.Native.Nat.{ℕ}
use borrow.Author.Rules.{rules}
use lib.Dec.{ltb}
use Rattle.row.proofs.rank.Goals as goal

pub returns-clause-value : goal.returns-clause-value
returns-clause-value c = c.first.ensures.value (λ (n : ℕ). ltb c.args.number n) (λ x b q. search rules)
