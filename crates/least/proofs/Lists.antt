-- Lists by place. Assumes nothing.
use mathlib.Core.Path.{◌≡◌, refl, ap, ◌∙◌}
use mathlib.Core.Logic.{inl, inr}
use mathlib.Core.List.{List, [], ◌∷◌}
use Prim.Native.Nat.{ℕ, zero, suc, ◌+◌, ◌≤◌, ◌<◌}
use native.Mathlib.Numerals.{add-one}
use native.Mathlib.Omega.{arith}
use lib.ListN.{length, get_or, drop, length-append, drop_of_length-le, get_or-append}
use lib.Seq.{drop-cons, get_or_at}
use Rattle.least.specs.Lists.{list_to, First}
use Rattle.least.proofs.Count.{le_or-lt}

module _ {A : Type 0} where
  pub drop_next : (l : List A) (k : ℕ) (d : A) → k < length l → drop k l ≡ get_or l k d ∷ drop (k + 1) l
  drop_next l k d h = rw (add-one k, drop-cons l k d h)

  pub drop_past : (l : List A) (k : ℕ) → length l ≤ k → drop k l ≡ []
  drop_past l k h = drop_of_length-le l {i = k} h

  module _ (f : ℕ → A) where
    pub length_to : (n : ℕ) → length (list_to f n) ≡ n
    unfolding list_to
    length_to zero = refl
    length_to (suc n) = omega (arith, length-append (list_to f n) (f n ∷ []), length_to n)

    pub at_to : (n k : ℕ) (d : A) → k < n → get_or (list_to f n) k d ≡ f k
    unfolding list_to
    at_to zero k d h = absurd (omega arith)
    at_to (suc n) k d h = elim (le_or-lt n k) [
      | inl q ↦ get_or_at (list_to f n) (f n) [] d k (length_to n ∙ same q) ∙ ap f (same q)
      | inr q ↦ get_or-append (list_to f n) (f n ∷ []) d k (omega (arith, length_to n)) ∙ at_to n k d q
    ]
      where
        same : n ≤ k → n ≡ k
        same q = omega arith

-- there is one such place
pub first_one : {f : ℕ → ℕ} {m bound r s : ℕ} → First f m bound r → First f m bound s → r ≡ s
first_one {f} {m} {bound} {r} {s} p q = elim (le_or-lt r s) [
  | inl h ↦ elim (le_or-lt s r) [
    | inl g ↦ omega arith
    | inr g ↦ absurd (omega (arith, p.found (omega (arith, q.most)), q.before r g))
  ]
  | inr h ↦ absurd (omega (arith, q.found (omega (arith, p.most)), p.before s h))
]

-- equal numbers have the same first one below the bound
pub first_same : (f g : ℕ → ℕ) (m bound r : ℕ) → ((k : ℕ) → k < m → f k ≡ g k) → First f m bound r → First g m bound r
first_same f g m bound r e q = record {
  most = q.most;
  before = λ k h. omega (arith, q.before k h, e k (omega (arith, q.most)));
  found = λ h. omega (arith, q.found h, e r h);
}
