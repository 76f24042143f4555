-- The way out of each count and term, and how great what of a sum hangs on the instant alone may be. Assumes nothing.
use mathlib.Core.Path.{◌≡◌, sym, ap, ◌∙◌}
use mathlib.Core.Bool.{Bool, true, false}
use mathlib.Core.Logic.{inl, inr}
use mathlib.Core.List.{List}
use Prim.Native.Nat.{ℕ, ◌+◌, ◌-◌, ◌*◌, ◌/◌, ◌≤◌, ◌<◌}
use native.Mathlib.Omega.{arith}
use native.Mathlib.Nat.{div-le_self, div-zero, mul-zero, mul-le-mul, mul-le-mul_right}
use lib.Dec.{eqb}
use borrow.Author.Tests.{eq-eqb, ne_eqb}
use Rattle.least.specs.Count.{pick, count}
use Rattle.least.specs.Fold.{sum_to}
use Rattle.least.specs.Lists.{values}
use Rattle.least.proofs.Count.{le_or-lt, count_in_lem, count_out, count_rises}
use Rattle.least.proofs.Fold.{sum_to-bound}
use Rattle.blocks.specs.Sheet.{instant_slot, block_at, entries_in, entry_at, term_of, instant_term, instant_sum, Small, Shaped}

module _ (a b t : ℕ) where
  pub counted_none : a < b → 0 ≡ count a b t
  counted_none h = sym (count_out a b t h)

  pub counted_one : b ≤ a → t ≡ 0 → 1 ≡ count a b t
  counted_one h e = sym (count_in_lem a b t h ∙ ap (λ s. 1 + (a - b) / s) e ∙ ap (λ q. 1 + q) (div-zero (a - b)))

  pub counted_more : b ≤ a → 1 + (a - b) / t ≡ count a b t
  counted_more h = sym (count_in_lem a b t h)

  pub counted_few : 1 + (a - b) / t ≤ a + 1
  counted_few = omega (arith, div-le_self (a - b) t)

  pub count_few : count a b t ≤ a + 1
  count_few = elim (le_or-lt b a) [ inl h ↦ omega (arith, count_in_lem a b t h, counted_few) | inr h ↦ omega (arith, count_out a b t h) ]

-- what a term is at most
pub term-small : (r x y w : ℕ) → r ≤ x + y + 1 → x < 16777216 → y < 16777216 → w < 16777216 → r * w < 562949953421312
term-small r x y w h a b c = omega (arith, mul-le-mul {n₁ = r} {m₁ = w} {n₂ = 33554431} {m₂ = 16777215} (omega arith) (omega arith))

module _ (e : List ℕ) (k : ℕ) where
  pub term_none : (v : ℕ → ℕ) → values e (k + 4) ≡ 0 → 0 ≡ term_of e v k
  unfolding term_of
  term_none v h = rw h (sym (mul-zero _))

  pub term_some : (x r : ℕ) → r ≡ count (x + values e (k + 1)) (values e (k + 2)) (values e (k + 3)) → r * values e (k + 4) ≡ term_of e (λ l. x) k
  unfolding term_of
  term_some x r h = rw h

  -- where the count looks at the instant
  pub instant_here : values e k ≡ instant_slot → (u : ℕ) → term_of e (λ l. u) k ≡ instant_term e u k
  unfolding instant_term
  instant_here is u = rw (eq-eqb (values e k) instant_slot is)

  -- where it looks elsewhere
  pub instant_not : (values e k ≡ instant_slot → ⊥) → (u : ℕ) → 0 ≡ instant_term e u k
  unfolding instant_term
  instant_not never u = rw (ne_eqb (values e k) instant_slot never)

  pub instant_small : (u : ℕ) → Small e → u < 16777216 → instant_term e u k ≤ 562949953421311
  unfolding instant_term term_of
  instant_small u small h = go (eqb (values e k) instant_slot)
    where
      go : (b : Bool) → pick b (count (u + values e (k + 1)) (values e (k + 2)) (values e (k + 3)) * values e (k + 4)) 0 ≤ 562949953421311
      go true = omega (
        arith,
        term-small (count (u + values e (k + 1)) (values e (k + 2)) (values e (k + 3))) u (values e (k + 1)) (values e (k + 4))
            (count_few (u + values e (k + 1)) (values e (k + 2)) (values e (k + 3))) h (small (k + 1)) (small (k + 4)),
      )
      go false = omega arith

-- it rises with what its count looks at
pub term-le : (e : List ℕ) (v v' : ℕ → ℕ) (k : ℕ) → v (values e k) ≤ v' (values e k) → term_of e v k ≤ term_of e v' k
unfolding term_of
term-le e v v' k h = mul-le-mul_right (values e (k + 4)) (count_rises (values e (k + 2)) (values e (k + 3)) (omega arith))

-- what the first q entries at node p add at the instant u
abbrev pub instant_to : List ℕ → ℕ → ℕ → ℕ → ℕ
instant_to e p u q = sum_to q (λ i. instant_term e u (entry_at e p i))

module _ (e : List ℕ) (p u : ℕ) (small : Small e) (h : u < 16777216) where
  pub instant_to_small : (q : ℕ) → instant_to e p u q ≤ q * 562949953421311
  instant_to_small q = sum_to-bound q (λ i. instant_term e u (entry_at e p i)) 562949953421311 (λ i l. instant_small e (entry_at e p i) u small h)

  pub instant_sum_small : entries_in e p ≤ 1024 → instant_sum e p u < 576460752320200704
  unfolding instant_sum
  instant_sum_small few = omega (arith, small (block_at e p), instant_to_small (entries_in e p))

-- fewer nodes
pub shaped_less : {e : List ℕ} {m m' : ℕ} → m' ≤ m → Shaped e m → Shaped e m'
shaped_less h s = record { whole = λ p q. s.whole p (omega arith); few = λ p q. s.few p (omega arith); short = s.short; small = s.small; looks = λ p q a b. s.looks p q (omega arith) b }
