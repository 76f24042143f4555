-- Laws of pick, count and ceil. Assumes nothing.
use mathlib.Core.Path.{◌≡◌, refl, sym, ap, ◌∙◌}
use mathlib.Core.Bool.{Bool, true, false}
use mathlib.Core.Logic.{◌⊎◌, inl, inr}
use Prim.Native.Nat.{ℕ, ◌+◌, ◌-◌, ◌*◌, ◌/◌, ◌≤◌, ◌<◌}
use native.Mathlib.Nat.{le_refl, le_trans, mul-le-mul_left, le-div_iff_mul-le, div-lt_iff_lt-mul, div-zero}
use native.Mathlib.Omega.{arith}
use lib.Dec.{leb, ltb, eqb}
use borrow.Author.Tests.{leb-true, leb-false, le-leb, lt-leb, lt-ltb, le-ltb, eq-eqb, ne_eqb}
use Rattle.least.specs.Count.{pick, count, ceil}

pub le_or-lt : (a b : ℕ) → (a ≤ b) ⊎ (b < a)
le_or-lt a b = go (leb a b) refl
  where
    go : (t : Bool) → leb a b ≡ t → (a ≤ b) ⊎ (b < a)
    go true e = inl (leb-true a b e)
    go false e = inr (leb-false a b e)

pub never_true : (b : Bool) → (b ≡ true → ⊥) → b ≡ false
never_true true h = absurd (h refl)
never_true false h = refl

pub pick-le : (b : Bool) {a a' c c' : ℕ} → a ≤ a' → c ≤ c' → pick b a c ≤ pick b a' c'
pick-le true p q = p
pick-le false p q = q

-- what is picked by a test
module _ {A : Type 0} (s t : ℕ) (p q : A) where
  pub pick_below : s < t → p ≡ pick (ltb s t) p q
  pick_below h = rw (lt-ltb s t h)

  pub pick_above : t ≤ s → q ≡ pick (ltb s t) p q
  pick_above h = rw (le-ltb s t h)

  pub pick_same : s ≡ t → p ≡ pick (eqb s t) p q
  pick_same h = rw (eq-eqb s t h)

  pub pick_other : (s ≡ t → ⊥) → q ≡ pick (eqb s t) p q
  pick_other h = rw (ne_eqb s t h)

-- the two cases
pub count_in_lem : (a b t : ℕ) → b ≤ a → count a b t ≡ 1 + (a - b) / t
unfolding count
count_in_lem a b t h = rw (le-leb b a h)

pub count_out : (a b t : ℕ) → a < b → count a b t ≡ 0
unfolding count
count_out a b t h = rw (lt-leb b a h)

-- What count is: n lies below it exactly if b + n × T ≤ a. What compares counts below rests on the two contrapositives.
count-gt : (a b t n : ℕ) → 0 < t → n < count a b t → b + n * t ≤ a
count-gt a b t n p h = elim (le_or-lt b a) [
  | inl q ↦ omega (arith, (le-div_iff_mul-le {k = t} {x = n} {y = a - b} p).0 (omega (arith, count_in_lem a b t q)))
  | inr q ↦ absurd (omega (arith, count_out a b t q))
]

gt-count : (a b t n : ℕ) → 0 < t → b + n * t ≤ a → n < count a b t
gt-count a b t n p h =
    let q : b ≤ a = omega arith in
    omega (arith, count_in_lem a b t q, (le-div_iff_mul-le {k = t} {x = n} {y = a - b} p).1 (omega arith))

pub count-le : (a b t n : ℕ) → 0 < t → a < b + n * t → count a b t ≤ n
count-le a b t n p h = elim (le_or-lt (count a b t) n) [
  | inl q ↦ q
  | inr q ↦ omega (arith, count-gt a b t n p q)
]

pub le-count : (a b t n : ℕ) → 0 < t → count a b t ≤ n → a < b + n * t
le-count a b t n p h = elim (le_or-lt (b + n * t) a) [
  | inl q ↦ omega (arith, gt-count a b t n p q)
  | inr q ↦ q
]

-- the same of ceil: n lies below it exactly if n × T < b
pub ceil-le : (b t n : ℕ) → 0 < t → b ≤ n * t → ceil b t ≤ n
unfolding ceil
ceil-le b t n p h = omega (arith, (div-lt_iff_lt-mul {k = t} {x = b + (t - 1)} {y = n + 1} p).1 (omega arith))

pub le-ceil : (b t n : ℕ) → 0 < t → ceil b t ≤ n → b ≤ n * t
unfolding ceil
le-ceil b t n p h = omega (arith, (div-lt_iff_lt-mul {k = t} {x = b + (t - 1)} {y = n + 1} p).0 (omega arith))

pub ceil_mono : {a b : ℕ} (t : ℕ) → 0 < t → a ≤ b → ceil a t ≤ ceil b t
ceil_mono {a} {b} t p h = ceil-le a t (ceil b t) p (le_trans h (le-ceil b t (ceil b t) p (le_refl _)))

pub ceil_pos : (b t : ℕ) → 0 < t → 0 < b → 0 < ceil b t
ceil_pos b t p q = elim (le_or-lt (ceil b t) 0) [ inl r ↦ omega (arith, le-ceil b t 0 p r) | inr r ↦ r ]

-- rises with a
pub count_mono : {a a' : ℕ} (b t : ℕ) → 0 < t → a ≤ a' → count a b t ≤ count a' b t
count_mono {a} {a'} b t p h = count-le a b t (count a' b t) p (omega (arith, le-count a' b t (count a' b t) p (le_refl _)))

pub div-none : (x t : ℕ) → t ≤ 0 → x / t ≡ 0
div-none x t z = ap (λ s. x / s) (omega arith) ∙ div-zero x

-- also without a period
pub count_rises : {a a' : ℕ} (b t : ℕ) → a ≤ a' → count a b t ≤ count a' b t
count_rises {a} {a'} b t h = elim (le_or-lt t 0) [
  | inl z ↦ elim (le_or-lt b a) [
    | inl q ↦ omega (arith, count_in_lem a b t q, count_in_lem a' b t (omega arith), div-none (a - b) t z, div-none (a' - b) t z)
    | inr q ↦ omega (arith, count_out a b t q)
  ]
  | inr p ↦ count_mono b t p h
]

-- Compared as differences: a − b at most c above a' − b'.
pub count_grows : (a b a' b' c t : ℕ) → 0 < t → a + b' ≤ a' + b + c → count a b t ≤ count a' b' t + ceil c t
count_grows a b a' b' c t p h =
    count-le a b t (count a' b' t + ceil c t) p
    (omega (arith, le-count a' b' t (count a' b' t) p (le_refl _), le-ceil c t (ceil c t) p (le_refl _)))

-- by at most one in a tick, also without a period
pub count_tick : (a a' b t : ℕ) → a' ≤ a + 1 → count a' b t ≤ count a b t + 1
count_tick a a' b t h = elim (le_or-lt t 0) [
  | inl z ↦ elim (le_or-lt b a') [
    | inl q ↦ omega (arith, count_in_lem a' b t q, div-none (a' - b) t z)
    | inr q ↦ omega (arith, count_out a' b t q)
  ]
  | inr p ↦ omega (arith, count_grows a' b a b 1 t p (omega arith), ceil-le 1 t 1 p (omega arith))
]

-- at least one packet in a span that is not negative
pub count_some : (a b t : ℕ) → 0 < t → b ≤ a → 0 < count a b t
count_some a b t p h = omega (arith, count_in_lem a b t h)

-- all but the first
pub count_after : (a t : ℕ) → 0 < t → count a t t + 1 ≡ count a 0 t
count_after a t p = omega (
  arith,
  count_some a 0 t p (omega arith),
  count-le a 0 t (count a t t + 1) p (omega (arith, le-count a t t (count a t t) p (le_refl _))),
  count-le a t t (count a 0 t - 1) p (omega (arith, le-count a 0 t (count a 0 t) p (le_refl _), count_some a 0 t p (omega arith), back (count a 0 t) (count_some a 0 t p (omega arith)))),
)
  where
    back : (n : ℕ) → 0 < n → n * t ≡ (n - 1) * t + t
    back n q = let e : n ≡ n - 1 + 1 = omega arith in ap (λ m. m * t) e ∙ omega arith

-- both ends moved alike
pub count_shift : (a b c t : ℕ) → 0 < t → count (a + c) (b + c) t ≡ count a b t
count_shift a b c t p = omega (
  arith,
  count-le (a + c) (b + c) t (count a b t) p (omega (arith, le-count a b t (count a b t) p (le_refl _))),
  count-le a b t (count (a + c) (b + c) t) p (omega (arith, le-count (a + c) (b + c) t (count (a + c) (b + c) t) p (le_refl _))),
)

-- as it is worked out
module _ (x t : ℕ) where
  pub ceil_none : t ≡ 0 → 0 ≡ ceil x t
  unfolding ceil
  ceil_none e = rw e (sym (div-zero (x + (0 - 1))))

  pub ceil_made : (t ≡ 0 → ⊥) → (x + (t - 1)) / t ≡ ceil x t
  unfolding ceil
  ceil_made e = omega arith

  pub ceil_most : x ≤ 65536 → (t ≡ 0 → ⊥) → (x + (t - 1)) / t ≤ 65536
  unfolding ceil
  ceil_most h e = let p : 0 < t = omega arith in ceil-le x t 65536 p (omega (arith, mul-le-mul_left {m = 1} {n = t} 65536 (omega arith)))
