-- The way out of a term that looks elsewhere than at the instant, and how the sum over a sheet goes on with such terms. Assumes nothing.
use mathlib.Core.Path.{◌≡◌, refl, sym, ap}
use mathlib.Core.Bool.{Bool, true, false}
use mathlib.Core.List.{List}
use Prim.Native.Nat.{ℕ, ◌+◌, ◌*◌}
use native.Mathlib.Omega.{arith}
use native.Mathlib.Numerals.{add-one}
use lib.Dec.{eqb}
use borrow.Author.Tests.{eq-eqb, ne_eqb, eqb-true, eqb-false}
use Rattle.least.specs.Fold.{sum_to}
use Rattle.least.specs.Lists.{values}
use Rattle.least.proofs.Fold.{sum_to-add, sum_to_ext, sum_to-none}
use Rattle.blocks.specs.Sheet.{head_size, entry_size, instant_slot, block_at, entries_in, entry_at, term_of, instant_term, look_term, instant_sum, sheet_sum, Looking}
use Rattle.blocks.proofs.Terms.{instant_here, instant_not}

module _ (e : List ℕ) (k : ℕ) (v : ℕ → ℕ) where
  term-at : (x : ℕ) → x ≡ v (values e k) → term_of e (λ l. x) k ≡ term_of e v k
  unfolding term_of
  term-at x h = rw h

  pub look_not : values e k ≡ instant_slot → 0 ≡ look_term e v k
  unfolding look_term
  look_not is = rw (eq-eqb (values e k) instant_slot is)

  pub look_here : (values e k ≡ instant_slot → ⊥) → term_of e (λ l. v (values e k)) k ≡ look_term e v k
  unfolding look_term
  look_here never = rw (ne_eqb (values e k) instant_slot never) (term-at (v (values e k)) refl)

  term-split : term_of e v k ≡ instant_term e (v instant_slot) k + look_term e v k
  term-split = go (eqb (values e k) instant_slot) refl
    where
      go : (b : Bool) → eqb (values e k) instant_slot ≡ b → term_of e v k ≡ instant_term e (v instant_slot) k + look_term e v k
      go true q =
          let is = eqb-true (values e k) instant_slot q in
          omega (arith, term-at (v instant_slot) (ap v (sym is)), instant_here e k is (v instant_slot), look_not is)
      go false q =
          let never = eqb-false (values e k) instant_slot q in
          omega (arith, term-at (v (values e k)) refl, instant_not e k never (v instant_slot), look_here never)

-- what the first q entries at node p add that looks elsewhere
abbrev pub look_to : List ℕ → ℕ → (ℕ → ℕ) → ℕ → ℕ
look_to e p v q = sum_to q (λ i. look_term e v (entry_at e p i))

module _ (e : List ℕ) (p : ℕ) (v : ℕ → ℕ) where
  pub look_none : (s : ℕ) → s ≡ s + look_to e p v 0
  unfolding sum_to
  look_none s = omega arith

  pub look_more : (at : ℕ) → at ≡ block_at e p → (q s r k : ℕ) → s ≡ k + look_to e p v q → r ≡ s + look_term e v (at + head_size + q * entry_size) → r ≡ k + look_to e p v (q + 1)
  unfolding sum_to
  look_more at is q s r k h g = rw (add-one q) (omega (arith, ap (λ x. look_term e v (x + head_size + q * entry_size)) is))

  pub sheet_split : sheet_sum e p v ≡ instant_sum e p (v instant_slot) + look_to e p v (entries_in e p)
  unfolding sheet_sum instant_sum
  sheet_split = omega (
    arith,
    sum_to_ext (entries_in e p) (λ q. term_of e v (entry_at e p q)) (λ q. instant_term e (v instant_slot) (entry_at e p q) + look_term e v (entry_at e p q)) (λ q h. term-split e (entry_at e p q) v),
    sum_to-add (entries_in e p) (λ q. instant_term e (v instant_slot) (entry_at e p q)) (λ q. look_term e v (entry_at e p q)),
  )

  pub look_all : (q s k : ℕ) → s ≡ k + look_to e p v q → k ≡ instant_sum e p (v instant_slot) → q ≡ entries_in e p → s ≡ sheet_sum e p v
  look_all q s k h is all = omega (arith, ap (look_to e p v) all, sheet_split)

  -- where each looks at the instant
  pub look_never : (n k : ℕ) → Looking e p n → n ≡ 0 → k ≡ instant_sum e p (v instant_slot) → k ≡ sheet_sum e p v
  look_never n k looks none is = omega (
    arith,
    sheet_split,
    sum_to-none (entries_in e p) (λ q. look_term e v (entry_at e p q)) (λ q h. sym (look_not e (entry_at e p q) v (looks none q h))),
  )
