-- Sums, greatest and least values over the numbers below n, one number more at a time, and over the list of a function's values there. Assumes nothing.
use mathlib.Core.Path.{◌≡◌, refl, ap, ◌∙◌}
use mathlib.Core.Logic.{inl, inr}
use mathlib.Core.List.Memᴰ
use mathlib.Core.List.{List, [], ◌∷◌, ◌++◌, map, Memᴰ}
use Prim.Native.Nat.{ℕ, zero, suc, ◌+◌, ◌≤◌, ◌<◌, max, min}
use native.Mathlib.Numerals.{add-one}
use native.Mathlib.Omega.{arith}
use lib.ListN.{take}
use lib.Seq.{take_all, take-append-le}
use Rattle.least.specs.Fold.{sum_to, max_to, min_to, sum_of, max_of, min_of}
use Rattle.least.specs.Lists.{list_to}
use Rattle.least.proofs.Count.{le_or-lt}
use Rattle.least.proofs.Fold.{sum_append, max_append}
use Rattle.least.proofs.Lists.{length_to}

-- one number more
module _ (f : ℕ → ℕ) (n : ℕ) where
  pub sum_to_more : sum_to (n + 1) f ≡ sum_to n f + f n
  unfolding sum_to
  sum_to_more = rw (add-one n, sum_to)

  pub max_to_more : max_to (n + 1) f ≡ max (max_to n f) (f n)
  unfolding max_to
  max_to_more = rw (add-one n, max_to)

  pub max_to_next : {x c r : ℕ} → x ≡ max_to n f → c ≡ f n → r ≡ max x c → r ≡ max_to (n + 1) f
  max_to_next h e g = omega (arith, max_to_more)

  pub min_to_more : (d : ℕ) → min_to d (n + 1) f ≡ min (min_to d n f) (f n)
  unfolding min_to
  min_to_more d = rw (add-one n, min_to)

pub max_to_ext : (n : ℕ) (f g : ℕ → ℕ) → ((j : ℕ) → j < n → f j ≡ g j) → max_to n f ≡ max_to n g
unfolding max_to
max_to_ext zero f g h = refl
max_to_ext (suc n) f g h = omega (arith, h n (omega arith), max_to_ext n f g (λ j l. h j (omega arith)))

pub min_to_ext : (d n : ℕ) (f g : ℕ → ℕ) → ((j : ℕ) → j < n → f j ≡ g j) → min_to d n f ≡ min_to d n g
unfolding min_to
min_to_ext d zero f g h = refl
min_to_ext d (suc n) f g h = omega (arith, h n (omega arith), min_to_ext d n f g (λ j l. h j (omega arith)))

module _ {A : Type 0} where
  min_snoc : (d : ℕ) (g : A → ℕ) (l : List A) (x : A) → min_of d g (l ++ (x ∷ [])) ≡ min (min_of d g l) (g x)
  unfolding min_of
  min_snoc d g [] x = omega arith
  min_snoc d g (y ∷ l) x = omega (arith, min_snoc d g l x)

  pub min_map : {B : Type 0} (d : ℕ) (g : A → ℕ) (f : B → A) (l : List B) → min_of d g (map f l) ≡ min_of d (λ x. g (f x)) l
  unfolding min_of
  min_map d g f [] = refl
  min_map d g f (x ∷ l) = ap (min (g (f x))) (min_map d g f l)

  -- f at each place below n
  module _ (f : ℕ → A) where
    pub sum_listed : (g : A → ℕ) (n : ℕ) → sum_of g (list_to f n) ≡ sum_to n (λ j. g (f j))
    unfolding sum_of sum_to list_to
    sum_listed g zero = refl
    sum_listed g (suc n) = omega (arith, sum_append g (list_to f n) (f n ∷ []), sum_listed g n)

    pub max_listed : (g : A → ℕ) (n : ℕ) → max_of g (list_to f n) ≡ max_to n (λ j. g (f j))
    unfolding max_of max_to list_to
    max_listed g zero = refl
    max_listed g (suc n) = omega (arith, max_append g (list_to f n) (f n ∷ []), max_listed g n)

    pub min_listed : (d : ℕ) (g : A → ℕ) (n : ℕ) → min_of d g (list_to f n) ≡ min_to d n (λ j. g (f j))
    unfolding min_of min_to list_to
    min_listed d g zero = refl
    min_listed d g (suc n) = omega (arith, min_snoc d g (list_to f n) (f n), min_listed d g n)

    pub take_listed : (k n : ℕ) → k ≤ n → take k (list_to f n) ≡ list_to f k
    unfolding list_to
    take_listed k zero h = (let e : k ≡ 0 = omega arith in rw e)
    take_listed k (suc n) h = elim (le_or-lt k n) [
      | inl q ↦ take-append-le k (list_to f n) (f n ∷ []) (omega (arith, length_to f n)) ∙ take_listed k n q
      | inr q ↦ take_all k (list_to f (suc n)) (omega (arith, length_to f (suc n))) ∙ ap (list_to f) (let e : suc n ≡ k = omega arith in e)
    ]

    pub listed_member : (n k : ℕ) → k < n → Memᴰ (f k) (list_to f n)
    unfolding list_to
    listed_member zero k h = absurd (omega arith)
    listed_member (suc n) k h = elim (le_or-lt n k) [
      | inl q ↦ (let e : n ≡ k = omega arith in rw (← e) (Memᴰ.append_right (list_to f n) (Memᴰ.head refl)))
      | inr q ↦ Memᴰ.append_left (f n ∷ []) (listed_member n k q)
    ]
