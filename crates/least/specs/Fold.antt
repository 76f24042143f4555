-- Sums, greatest and least values over a list of anything.
use Rattle.std.specs.Prelude.{Bool, true, false, List, [], ◌∷◌, ℕ, zero, suc, ◌+◌, max, min}
use Rattle.least.specs.Count.{pick}

-- over the numbers below n
unfoldable pub sum_to : ℕ → (ℕ → ℕ) → ℕ
sum_to zero f = 0
sum_to (suc n) f = sum_to n f + f n

unfoldable pub max_to : ℕ → (ℕ → ℕ) → ℕ
max_to zero f = 0
max_to (suc n) f = max (max_to n f) (f n)

-- the least of d and the values
unfoldable pub min_to : ℕ → ℕ → (ℕ → ℕ) → ℕ
min_to d zero f = d
min_to d (suc n) f = min (min_to d n f) (f n)

module _ {A : Type 0} where
  unfoldable pub sum_of : (A → ℕ) → List A → ℕ
  sum_of f [] = 0
  sum_of f (x ∷ xs) = f x + sum_of f xs

  unfoldable pub max_of : (A → ℕ) → List A → ℕ
  max_of f [] = 0
  max_of f (x ∷ xs) = max (f x) (max_of f xs)

  -- the least of d and the values
  unfoldable pub min_of : ℕ → (A → ℕ) → List A → ℕ
  min_of d f [] = d
  min_of d f (x ∷ xs) = min (f x) (min_of d f xs)

  -- the value of those that pass a test; nothing otherwise
  abbrev pub only : (A → Bool) → (A → ℕ) → A → ℕ
  only p f x = pick (p x) (f x) 0

  unfoldable pub any_of : (A → Bool) → List A → Bool
  any_of p [] = false
  any_of p (x ∷ xs) = pick (p x) true (any_of p xs)

  unfoldable pub keep : (A → Bool) → List A → List A
  keep p [] = []
  keep p (x ∷ xs) = elim (p x) [ true ↦ x ∷ keep p xs | false ↦ keep p xs ]
