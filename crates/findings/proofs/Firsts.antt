-- A search for the first at fault: a law for the start, a turn, each way out and what it has found; and it finds one answer. Assumes nothing.
use mathlib.Core.Path.{◌≡◌, refl, sym, ap, ◌∙◌}
use mathlib.Core.Bool.{Bool, true, false}
use mathlib.Core.List.{List}
use Prim.Native.Nat.{ℕ, ◌+◌, ◌≤◌, ◌<◌}
use native.Mathlib.Omega.{arith}
use borrow.Author.Count.{below_more}
use borrow.Author.Tests.{ltb-false}
use Rattle.std.specs.Prelude.{Option, Some, None}
use Rattle.std.proofs.lemmas.Bool.{false≢true}
use Rattle.least.specs.Lists.{values}
use Rattle.starts.specs.Runs.{most_time, LowTo}
use Rattle.findings.specs.Findings.{FirstIs, overloaded, Clear, FirstAt}

module _ (p : ℕ → Bool) where
  pub clear_none : Clear p 0
  clear_none j h = absurd (omega arith)

  pub clear_more : (k : ℕ) → Clear p k → p k ≡ false → Clear p (k + 1)
  clear_more k i e = below_more (λ j. p j ≡ false) k i e

  pub first_here : (n k : ℕ) → Clear p k → k < n → p k ≡ true → FirstIs p n (Some k)
  first_here n k i h e = record { within = h; before = i; fails = e }

  pub first_none : (n k : ℕ) → Clear p k → n ≤ k → FirstIs p n None
  first_none n k i q j h = i j (omega arith)

  -- what a search among as many as there are has found
  pub found_at : (m n r : ℕ) → m ≡ n → FirstIs p m (Some r) → FirstAt p n r
  found_at m n r e i = record { within = omega arith; before = i.before; fails = i.fails }

  pub found_clear : (m n : ℕ) → m ≡ n → FirstIs p m None → Clear p n
  found_clear m n e i k q = i k (omega arith)

  -- none at fault stands before the first
  pub first_least : (n k j : ℕ) → FirstAt p n k → p j ≡ true → k ≤ j
  first_least n k j i e = grind (arith, i.before j)

  pub first_one : (n : ℕ) (r r' : Option ℕ) → FirstIs p n r → FirstIs p n r' → r ≡ r'
  first_one n None None i i' = refl
  first_one n None (Some k) i i' = absurd (false≢true (sym (i k i'.within) ∙ i'.fails))
  first_one n (Some k) None i i' = absurd (false≢true (sym (i' k i.within) ∙ i.fails))
  first_one n (Some k) (Some j) i i' = ap Some (omega (arith, first_least n k j i i'.fails, first_least n j k i' i.fails))

-- no flow is without a busy length
pub clear_low : (busies : List ℕ) (n : ℕ) → Clear (overloaded busies) n → LowTo n busies
clear_low busies n i a q = ltb-false most_time (values busies a) (i a q)
