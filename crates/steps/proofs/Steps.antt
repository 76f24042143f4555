-- The next step of a node: a law for each way out of an entry, and for the entries in turn. Assumes nothing.
use mathlib.Core.Path.{◌≡◌, refl, sym, ap, ◌∙◌, subst}
use mathlib.Core.Bool.{Bool, true, false}
use mathlib.Core.Logic.{◌⊎◌, inl, inr}
use mathlib.Core.List.{List}
use Prim.Native.Nat.{ℕ, ◌+◌, ◌*◌, ◌≤◌, ◌<◌, min}
use native.Mathlib.Omega.{arith}
use native.Mathlib.Nat.{le_refl, mul-le-mul_right}
use lib.Dec.{eqb}
use borrow.Author.Tests.{eqb-true, eqb-false}
use Rattle.least.specs.Count.{pick, count}
use Rattle.least.specs.Fold.{sum_to}
use Rattle.least.specs.Lists.{values}
use Rattle.least.specs.Steps.{Step}
use Rattle.least.proofs.Count.{le_or-lt, pick-le, count_tick}
use Rattle.least.proofs.Fold.{sum_to-le}
use Rattle.least.proofs.Steps.{step_ext, step-none, step_more, step_map}
use Rattle.blocks.specs.Sheet.{instant_slot, block_at, entries_in, entry_at, instant_term, instant_sum}
use Rattle.steps.specs.Steps.{CountStep, EntryStep, NodeStep}
use Rattle.blocks.proofs.Terms.{term_none, term_some, term-le, instant_here, instant_not, instant_to}

-- what hangs on the instant rises with it
module _ (e : List ℕ) (u v : ℕ) (h : u ≤ v) where
  pub term_rises : (k : ℕ) → instant_term e u k ≤ instant_term e v k
  unfolding instant_term
  term_rises k = pick-le (eqb (values e k) instant_slot) (term-le e (λ l. u) (λ l. v) k h) (le_refl 0)

  pub sum_rises : (p : ℕ) → instant_sum e p u ≤ instant_sum e p v
  unfolding instant_sum
  sum_rises p = omega (
    arith,
    sum_to-le (entries_in e p) (λ q. instant_term e u (entry_at e p q)) (λ q. instant_term e v (entry_at e p q)) (λ q on. term_rises (entry_at e p q)),
  )

-- the ways out of an entry
module _ (e : List ℕ) (k u end : ℕ) where
  pub entry_none : u < end → values e (k + 4) ≡ 0 → EntryStep e k u end end
  unfolding instant_term
  entry_none on z =
      step-none (λ v h. ap (λ t. pick (eqb (values e k) instant_slot) t 0) (sym (term_none e k (λ l. v) z) ∙ term_none e k (λ l. u) z)) on

  pub entry_other : u < end → (values e k ≡ instant_slot → ⊥) → EntryStep e k u end end
  entry_other on never = step-none (λ v h. sym (instant_not e k never v) ∙ instant_not e k never u) on

  pub entry_looks : (r : ℕ) → values e k ≡ instant_slot → 0 < values e (k + 4) → CountStep e k u end r → EntryStep e k u end r
  entry_looks r is h s =
      step_ext (λ v. term_some e k v _ refl ∙ instant_here e k is v)
      (step_map (λ c. c * values e (k + 4)) (λ a b q. omega (arith, mul-le-mul_right (values e (k + 4)) q)) s)

-- where an entry steps its count looks at the instant and has weight, so that the next step is its count's
pub entry_again : (e : List ℕ) (k u₀ u end r : ℕ) → EntryStep e k u₀ end u → u < end → CountStep e k u end r → EntryStep e k u end r
entry_again e k u₀ u end r s on next = go (eqb (values e k) instant_slot) refl (le_or-lt (values e (k + 4)) 0)
  where
    go : (b : Bool) → eqb (values e k) instant_slot ≡ b → (values e (k + 4) ≤ 0) ⊎ (0 < values e (k + 4)) → EntryStep e k u end r
    go true q (inl h) = absurd (omega (arith, s.up on, (entry_none e k u₀ end (omega (arith, s.later, s.most)) (omega arith)).still u (omega (arith, s.later)) on))
    go true q (inr h) = entry_looks e k u end r (eqb-true (values e k) instant_slot q) h next
    go false q h =
        let never = eqb-false (values e k) instant_slot q in
        absurd (omega (arith, s.up on, instant_not e k never u₀, instant_not e k never u))

-- at a step that is a tick later an entry adds its weight more
pub entry_tick : (e : List ℕ) (k u end r : ℕ) → EntryStep e k u end r → r < end → r ≤ u + 1 → instant_term e r k ≡ instant_term e u k + values e (k + 4)
entry_tick e k u end r s on near = go (eqb (values e k) instant_slot) refl
  where
    counted : ℕ → ℕ
    counted v = count (v + values e (k + 1)) (values e (k + 2)) (values e (k + 3))

    once : counted u < counted r → counted r ≡ counted u + 1
    once h = omega (arith, count_tick (u + values e (k + 1)) (r + values e (k + 1)) (values e (k + 2)) (values e (k + 3)) (omega arith))

    go : (b : Bool) → eqb (values e k) instant_slot ≡ b → instant_term e r k ≡ instant_term e u k + values e (k + 4)
    go true q =
        let is = eqb-true (values e k) instant_slot q in
        let a = term_some e k u (counted u) refl ∙ instant_here e k is u in
        let b = term_some e k r (counted r) refl ∙ instant_here e k is r in
        elim (le_or-lt (counted r) (counted u)) [
          | inl h ↦ absurd (omega (arith, mul-le-mul_right (values e (k + 4)) h, s.up on, a, b))
          | inr h ↦ omega (arith, ap (λ n. n * values e (k + 4)) (once h), a, b)
        ]
    go false q =
        let never = eqb-false (values e k) instant_slot q in
        absurd (omega (arith, s.up on, instant_not e k never u, instant_not e k never r))

-- of the first q entries at node p
abbrev pub EntriesStep : List ℕ → ℕ → ℕ → ℕ → ℕ → ℕ → Type 0
EntriesStep e p q u end r = Step (λ v. instant_to e p v q) u end r

module _ (e : List ℕ) (u end : ℕ) where
  pub entries_none : (p : ℕ) → u < end → EntriesStep e p 0 u end end
  unfolding sum_to
  entries_none p on = step-none (λ v h. refl) on

  pub entries_more : (p q r s : ℕ) → EntriesStep e p q u end r → EntryStep e (entry_at e p q) u end s → EntriesStep e p (q + 1) u end (min r s)
  entries_more p q r s a b = step_more (λ v i. instant_term e v (entry_at e p i)) u end q r s (λ v h. term_rises e u v h (entry_at e p q)) a b

  pub entries_all : (p q r : ℕ) → EntriesStep e p q u end r → q ≡ entries_in e p → NodeStep e p u end r
  unfolding instant_sum
  entries_all p q r a is =
      step_map (λ s. values e (block_at e p) + s) (λ a b q. omega arith)
      (subst (λ n. Step (λ v. instant_to e p v n) u end r) is a)
