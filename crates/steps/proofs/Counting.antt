-- How many steps a walk has, entry after entry. Assumes nothing.
use mathlib.Core.Path.{◌≡◌, sym, ap, ◌∙◌}
use mathlib.Core.List.{List}
use Prim.Native.Nat.{ℕ, ◌+◌, ◌-◌, ◌*◌, ◌/◌, ◌≤◌}
use native.Mathlib.Nat.{div-zero}
use native.Mathlib.Omega.{arith}
use borrow.Author.Tests.{eq-eqb, ne_eqb}
use Rattle.least.specs.Fold.{sum_to}
use Rattle.least.specs.Lists.{values}
use Rattle.least.proofs.Ranges.{sum_to_more}
use Rattle.blocks.specs.Sheet.{instant_slot, entries_in, entry_at}
use Rattle.steps.specs.Steps.{packets_at, steps_in}

module _ (e : List ℕ) (x k : ℕ) where
  pub packets_elsewhere : (values e k ≡ instant_slot → ⊥) → 0 ≡ packets_at e x k
  unfolding packets_at
  packets_elsewhere h = rw (ne_eqb (values e k) instant_slot h)

  pub packets_here : values e k ≡ instant_slot → x / values e (k + 3) ≡ packets_at e x k
  unfolding packets_at
  packets_here h = rw (eq-eqb (values e k) instant_slot h)

  pub packets_none : values e k ≡ instant_slot → values e (k + 3) ≡ 0 → 0 ≡ packets_at e x k
  packets_none h z = sym (ap (λ t. x / t) z ∙ div-zero x) ∙ packets_here h

-- the first q entries of node p
abbrev pub Counted : List ℕ → ℕ → ℕ → ℕ → ℕ → Type 0
Counted e p x q sum = (sum ≡ sum_to q (λ i. packets_at e x (entry_at e p i))) × (sum ≤ 65536 * q)

module _ (e : List ℕ) (p x : ℕ) where
  pub counted_none : Counted e p x 0 0
  unfolding sum_to
  counted_none = (omega arith, omega arith)

  pub counted_more : (q sum r k : ℕ) → k ≡ entry_at e p q → Counted e p x q sum → r ≡ packets_at e x k → r ≤ 65536 → Counted e p x (q + 1) (sum + r)
  counted_more q sum r k is c h most = (
    omega (arith, c.0, sum_to_more (λ i. packets_at e x (entry_at e p i)) q, ap (packets_at e x) is),
    omega (arith, c.1),
  )

pub steps-none : (e : List ℕ) (m x : ℕ) → m ≡ 0 → 0 ≡ steps_in e m x
unfolding steps_in
steps-none e m x z = rw (eq-eqb m 0 z)

pub counted-all : (e : List ℕ) (m x q sum : ℕ) → (m ≡ 0 → ⊥) → Counted e (m - 1) x q sum → q ≡ entries_in e (m - 1) → sum ≡ steps_in e m x
unfolding steps_in
counted-all e m x q sum some c is = c.0 ∙ rw (ne_eqb m 0 some, is)
