use Prim.Native.Nat.{ℕ, ◌+◌}
use mathlib.Core.Path.{◌≡◌}
use mathlib.Core.Bool.{Bool}
use lib.ListN.{drop}
use Rattle.flows.specs.declared.Flow.{Flow}
use Rattle.flows.specs.Lists.{held}
use Rattle.row.specs.Rows.{first_of}
use Rattle.row.proofs.first.Given as goal

abbrev pub invariant-loop-k : goal.invariant-loop-k
invariant-loop-k g l = (p : ℕ → Bool) → ((x : ℕ) (b : Bool) → goal.F-post g l.test x b → b ≡ p x) →
    first_of (λ (f : Flow). p f.number) (held l.row) ≡ l.k + first_of (λ (f : Flow). p f.number) (drop l.k (held l.row))
