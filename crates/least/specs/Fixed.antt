-- Least fixed points of a function on numbers.
use Rattle.std.specs.Prelude.{◌≡◌, true, false, ℕ, zero, suc, ◌≤◌, max, min, leb}

abbrev pub Rising : (ℕ → ℕ) → Type 0
Rising f = (a b : ℕ) → a ≤ b → f a ≤ f b

-- w is the first solution of f w = w from lo on
pub record Smallest (lo : ℕ) (f : ℕ → ℕ) (w : ℕ) : Type 0 where
  pub from : lo ≤ w
  pub fixed : f w ≡ w
  pub lowest : (v : ℕ) → lo ≤ v → f v ≡ v → w ≤ v

-- The same for a rising f from 0, against every v that f does not raise: the form that proofs use.
pub record Least (f : ℕ → ℕ) (w : ℕ) : Type 0 where
  pub fixed : f w ≡ w
  pub lowest : (v : ℕ) → f v ≤ v → w ≤ v

-- What a rising iteration keeps: f does not lower x, and no v that f does not raise lies below it.
pub record Under (f : ℕ → ℕ) (x : ℕ) : Type 0 where
  pub up : x ≤ f x
  pub low : (v : ℕ) → f v ≤ v → x ≤ v

-- up from x until nothing is gained, at most k times
unfoldable pub climb : (ℕ → ℕ) → ℕ → ℕ → ℕ
climb f zero x = x
climb f (suc k) x = elim (leb (f x) x) [ true ↦ x | false ↦ climb f k (f x) ]

-- held at most at H + 1, which stands for all that is past H
abbrev pub cap : ℕ → (ℕ → ℕ) → ℕ → ℕ
cap H f x = min (suc H) (f x)

-- f, but at least lo
abbrev pub floored : ℕ → (ℕ → ℕ) → ℕ → ℕ
floored lo f x = max lo (f x)
