-- Laws of sums, greatest and least values over a list. Hypotheses speak of the list's members alone, but that of any_ext. Assumes nothing.
use mathlib.Core.Path.{◌≡◌, refl, ◌∙◌, sym, ap, ap₂}
use mathlib.Core.Bool.{Bool, true, false}
use mathlib.Core.Logic.{inl, inr}
use mathlib.Core.List.{List, [], ◌∷◌, ◌++◌, map, Memᴰ, Sublistᴰ}
use Prim.Native.Nat.{ℕ, zero, suc, ◌+◌, ◌*◌, ◌≤◌, ◌<◌, max}
use native.Mathlib.Omega.{arith}
use lib.ListN.{length, get_or}
use Rattle.least.specs.Count.{pick}
use Rattle.least.proofs.Count.{le_or-lt}
use Rattle.least.specs.Fold.{sum_to, sum_of, max_of, min_of, only, any_of}

pub false_true : {A : Type 0} → false ≡ true → A
false_true e = absurd (let z : ◌≡◌ {A = ℕ} 0 1 = cc in omega arith)

module _ {A : Type 0} where
  -- membership
  pub mem_sublist : {a : A} {l m : List A} → Sublistᴰ l m → Memᴰ a l → Memᴰ a m
  mem_sublist {a = a} Sublistᴰ.slnil p = elim p [ ]
  mem_sublist (Sublistᴰ.cons s) p = Memᴰ.tail (mem_sublist s p)
  mem_sublist (Sublistᴰ.cons-cons e s) (Memᴰ.head q) = Memᴰ.head (q ∙ e)
  mem_sublist (Sublistᴰ.cons-cons e s) (Memᴰ.tail p) = Memᴰ.tail (mem_sublist s p)

  -- sums: pointwise order, strictly if so at one place, and no rise at all if the sums are equal
  pub sum_le : (f g : A → ℕ) (l : List A) → ((x : A) → Memᴰ x l → f x ≤ g x) → sum_of f l ≤ sum_of g l
  unfolding sum_of
  sum_le f g [] h = omega arith
  sum_le f g (x ∷ xs) h = omega (arith, h x (Memᴰ.head refl), sum_le f g xs (λ y m. h y (Memᴰ.tail m)))

  pub sum_tight : (f g : A → ℕ) (l : List A) → ((x : A) → Memᴰ x l → f x ≤ g x) → sum_of g l ≤ sum_of f l → (x : A) → Memᴰ x l → g x ≤ f x
  unfolding sum_of
  sum_tight f g [] h t x m = elim m [ ]
  sum_tight f g (y ∷ l) h t x (Memᴰ.head e) = omega (arith, h y (Memᴰ.head refl), ap f e, ap g e, sum_le f g l (λ z m. h z (Memᴰ.tail m)))
  sum_tight f g (y ∷ l) h t x (Memᴰ.tail m) = sum_tight f g l (λ z n. h z (Memᴰ.tail n)) (omega (arith, h y (Memᴰ.head refl))) x m

  pub sum_ext : (f g : A → ℕ) (l : List A) → ((x : A) → Memᴰ x l → f x ≡ g x) → sum_of f l ≡ sum_of g l
  unfolding sum_of
  sum_ext f g [] h = refl
  sum_ext f g (x ∷ xs) h = omega (arith, h x (Memᴰ.head refl), sum_ext f g xs (λ y m. h y (Memᴰ.tail m)))

  pub sum_none : (f : A → ℕ) (l : List A) → ((x : A) → Memᴰ x l → f x ≡ 0) → sum_of f l ≡ 0
  unfolding sum_of
  sum_none f [] h = refl
  sum_none f (x ∷ xs) h = omega (arith, h x (Memᴰ.head refl), sum_none f xs (λ y m. h y (Memᴰ.tail m)))

  pub sum_add : (f g : A → ℕ) (l : List A) → sum_of (λ x. f x + g x) l ≡ sum_of f l + sum_of g l
  unfolding sum_of
  sum_add f g [] = refl
  sum_add f g (x ∷ xs) = omega (arith, sum_add f g xs)

  pub sum_bound : (f : A → ℕ) (l : List A) (k : ℕ) → ((x : A) → Memᴰ x l → f x ≤ k) → sum_of f l ≤ length l * k
  unfolding sum_of
  sum_bound f [] k h = omega arith
  sum_bound f (x ∷ xs) k h = omega (arith, h x (Memᴰ.head refl), sum_bound f xs k (λ y m. h y (Memᴰ.tail m)))

  pub sum_append : (f : A → ℕ) (l m : List A) → sum_of f (l ++ m) ≡ sum_of f l + sum_of f m
  unfolding sum_of
  sum_append f [] m = omega arith
  sum_append f (x ∷ xs) m = omega (arith, sum_append f xs m)

  pub sum_sublist : (f : A → ℕ) {l m : List A} → Sublistᴰ l m → sum_of f l ≤ sum_of f m
  unfolding sum_of
  sum_sublist f Sublistᴰ.slnil = omega arith
  sum_sublist f (Sublistᴰ.cons s) = omega (arith, sum_sublist f s)
  sum_sublist f (Sublistᴰ.cons-cons e s) = omega (arith, ap f e, sum_sublist f s)

  pub sum_at : (f : A → ℕ) {x : A} {l : List A} → Memᴰ x l → f x ≤ sum_of f l
  unfolding sum_of
  sum_at f (Memᴰ.head e) = omega (arith, ap f e)
  sum_at f (Memᴰ.tail m) = omega (arith, sum_at f m)

  -- the greatest
  pub max_le : (f g : A → ℕ) (l : List A) → ((x : A) → Memᴰ x l → f x ≤ g x) → max_of f l ≤ max_of g l
  unfolding max_of
  max_le f g [] h = omega arith
  max_le f g (x ∷ xs) h = omega (arith, h x (Memᴰ.head refl), max_le f g xs (λ y m. h y (Memᴰ.tail m)))

  pub max_ext : (f g : A → ℕ) (l : List A) → ((x : A) → Memᴰ x l → f x ≡ g x) → max_of f l ≡ max_of g l
  unfolding max_of
  max_ext f g [] h = refl
  max_ext f g (x ∷ xs) h = omega (arith, h x (Memᴰ.head refl), max_ext f g xs (λ y m. h y (Memᴰ.tail m)))

  pub max_at : (f : A → ℕ) {x : A} {l : List A} → Memᴰ x l → f x ≤ max_of f l
  unfolding max_of
  max_at f (Memᴰ.head e) = omega (arith, ap f e)
  max_at f (Memᴰ.tail m) = omega (arith, max_at f m)

  pub max_under : (f : A → ℕ) (l : List A) (k : ℕ) → ((x : A) → Memᴰ x l → f x ≤ k) → max_of f l ≤ k
  unfolding max_of
  max_under f [] k h = omega arith
  max_under f (x ∷ xs) k h = omega (arith, h x (Memᴰ.head refl), max_under f xs k (λ y m. h y (Memᴰ.tail m)))

  pub max_append : (f : A → ℕ) (l m : List A) → max_of f (l ++ m) ≡ max (max_of f l) (max_of f m)
  unfolding max_of
  max_append f [] m = omega arith
  max_append f (x ∷ xs) m = omega (arith, max_append f xs m)

  pub max_sublist : (f : A → ℕ) {l m : List A} → Sublistᴰ l m → max_of f l ≤ max_of f m
  unfolding max_of
  max_sublist f Sublistᴰ.slnil = omega arith
  max_sublist f (Sublistᴰ.cons s) = omega (arith, max_sublist f s)
  max_sublist f (Sublistᴰ.cons-cons e s) = omega (arith, ap f e, max_sublist f s)

  -- the least
  pub min_sublist : (d : ℕ) (f : A → ℕ) {l m : List A} → Sublistᴰ l m → min_of d f m ≤ min_of d f l
  unfolding min_of
  min_sublist d f Sublistᴰ.slnil = omega arith
  min_sublist d f (Sublistᴰ.cons s) = omega (arith, min_sublist d f s)
  min_sublist d f (Sublistᴰ.cons-cons e s) = omega (arith, ap f e, min_sublist d f s)

  -- with a test: a wider test and a greater value
  pub only_le : (p q : A → Bool) (f g : A → ℕ) (x : A) → (p x ≡ true → q x ≡ true) → f x ≤ g x → only p f x ≤ only q g x
  only_le p q f g x i h = go (p x) refl
    where
      go : (b : Bool) → p x ≡ b → pick b (f x) 0 ≤ only q g x
      go true e = rw (i e) h
      go false e = omega arith

  -- some member passes, or each fails
  pub any_at : (p : A → Bool) {x : A} {l : List A} → Memᴰ x l → p x ≡ true → any_of p l ≡ true
  unfolding any_of
  any_at p (Memᴰ.head e) q = rw (sym (ap p e) ∙ q)
  any_at p (Memᴰ.tail {x = y} {xs = l} m) q = go (any_at p m q) (p y)
    where
      go : any_of p l ≡ true → (b : Bool) → pick b true (any_of p l) ≡ true
      go ih true = refl
      go ih false = ih

  pub any_found : (p : A → Bool) (l : List A) → any_of p l ≡ true → (x : A) × Memᴰ x l × (p x ≡ true)
  unfolding any_of
  any_found p [] e = false_true e
  any_found p (y ∷ l) e = go (any_found p l) (p y) refl e
    where
      go : (any_of p l ≡ true → (x : A) × Memᴰ x l × (p x ≡ true)) → (b : Bool) → p y ≡ b → pick b true (any_of p l) ≡ true →
          (x : A) × Memᴰ x (y ∷ l) × (p x ≡ true)
      go ih true q e = (y, Memᴰ.head refl, q)
      go ih false q e = (let r = ih e in (r.0, Memᴰ.tail r.1, r.2))

  pub any_none : (p : A → Bool) (l : List A) (d : A) → ((k : ℕ) → k < length l → p (get_or l k d) ≡ false) → any_of p l ≡ false
  unfolding any_of
  any_none p [] d h = refl
  any_none p (x ∷ l) d h = rw (h 0 (omega arith)) (any_none p l d (λ k i. h (suc k) (omega arith)))

-- over the numbers below n
pub sum_to-le : (n : ℕ) (f g : ℕ → ℕ) → ((j : ℕ) → j < n → f j ≤ g j) → sum_to n f ≤ sum_to n g
unfolding sum_to
sum_to-le zero f g h = omega arith
sum_to-le (suc n) f g h = omega (arith, h n (omega arith), sum_to-le n f g (λ j l. h j (omega arith)))

pub sum_to-bound : (n : ℕ) (f : ℕ → ℕ) (k : ℕ) → ((j : ℕ) → j < n → f j ≤ k) → sum_to n f ≤ n * k
unfolding sum_to
sum_to-bound zero f k h = omega arith
sum_to-bound (suc n) f k h = omega (arith, h n (omega arith), sum_to-bound n f k (λ j l. h j (omega arith)))

pub sum_to-lt : (n a : ℕ) (f g : ℕ → ℕ) → a < n → ((j : ℕ) → j < n → f j ≤ g j) → f a < g a → sum_to n f < sum_to n g
unfolding sum_to
sum_to-lt zero a f g l h q = absurd (omega arith)
sum_to-lt (suc n) a f g l h q = elim (le_or-lt n a) [
  | inl r ↦ (let e : a ≡ n = omega arith in omega (arith, ap f e, ap g e, sum_to-le n f g (λ j t. h j (omega arith))))
  | inr r ↦ omega (arith, h n (omega arith), sum_to-lt n a f g r (λ j t. h j (omega arith)) q)
]

pub sum_to-add : (n : ℕ) (f g : ℕ → ℕ) → sum_to n (λ j. f j + g j) ≡ sum_to n f + sum_to n g
unfolding sum_to
sum_to-add zero f g = refl
sum_to-add (suc n) f g = omega (arith, sum_to-add n f g)

pub sum_to_ext : (n : ℕ) (f g : ℕ → ℕ) → ((j : ℕ) → j < n → f j ≡ g j) → sum_to n f ≡ sum_to n g
unfolding sum_to
sum_to_ext zero f g h = refl
sum_to_ext (suc n) f g h = omega (arith, h n (omega arith), sum_to_ext n f g (λ j l. h j (omega arith)))

-- one number alone
pub sum_to-none : (n : ℕ) (f : ℕ → ℕ) → ((j : ℕ) → j < n → f j ≡ 0) → sum_to n f ≡ 0
unfolding sum_to
sum_to-none zero f h = refl
sum_to-none (suc n) f h = omega (arith, h n (omega arith), sum_to-none n f (λ j l. h j (omega arith)))

pub sum_to-one : (n a : ℕ) (f : ℕ → ℕ) → a < n → ((j : ℕ) → j < n → (j ≡ a → ⊥) → f j ≡ 0) → sum_to n f ≡ f a
unfolding sum_to
sum_to-one zero a f l h = absurd (omega arith)
sum_to-one (suc n) a f l h = elim (le_or-lt n a) [
  | inl q ↦ (let e : a ≡ n = omega arith in omega (arith, ap f e, sum_to-none n f (λ j r. h j (omega arith) (λ z. omega arith))))
  | inr q ↦ omega (arith, h n (omega arith) (λ z. omega arith), sum_to-one n a f q (λ j r. h j (omega arith)))
]

-- the elements of a list by place
pub sum_to_list : {A : Type 0} (f : A → ℕ) (l : List A) (d : A) → sum_to (length l) (λ j. f (get_or l j d)) ≡ sum_of f l
unfolding sum_of sum_to
sum_to_list f [] d = refl
sum_to_list f (x ∷ l) d = sum_to-first (length l) (λ j. f (get_or (x ∷ l) j d)) ∙ ap (λ s. f x + s) (sum_to_list f l d)
  where
    sum_to-first : (n : ℕ) (g : ℕ → ℕ) → sum_to n g + g n ≡ g 0 + sum_to n (λ j. g (suc j))
    sum_to-first zero g = omega arith
    sum_to-first (suc n) g = omega (arith, sum_to-first n g)

-- over a mapped list
pub sum-map : {A B : Type 0} (f : B → ℕ) (g : A → B) (l : List A) → sum_of f (map g l) ≡ sum_of (λ x. f (g x)) l
unfolding sum_of
sum-map f g [] = refl
sum-map f g (x ∷ xs) = omega (arith, sum-map f g xs)

pub max-map : {A B : Type 0} (f : B → ℕ) (g : A → B) (l : List A) → max_of f (map g l) ≡ max_of (λ x. f (g x)) l
unfolding max_of
max-map f g [] = refl
max-map f g (x ∷ xs) = omega (arith, max-map f g xs)

pub any-map : {A B : Type 0} (p : B → Bool) (g : A → B) (l : List A) → any_of p (map g l) ≡ any_of (λ x. p (g x)) l
unfolding any_of
any-map p g [] = refl
any-map p g (x ∷ xs) = ap (λ r. pick (p (g x)) true r) (any-map p g xs)

pub any_ext : {A : Type 0} (p q : A → Bool) (l : List A) → ((x : A) → p x ≡ q x) → any_of p l ≡ any_of q l
unfolding any_of
any_ext p q [] h = refl
any_ext p q (x ∷ xs) h = ap₂ (λ b r. pick b true r) (h x) (any_ext p q xs h)

pub sublist-map : {A B : Type 0} (g : A → B) {l m : List A} → Sublistᴰ l m → Sublistᴰ (map g l) (map g m)
sublist-map g Sublistᴰ.slnil = Sublistᴰ.slnil
sublist-map g (Sublistᴰ.cons s) = Sublistᴰ.cons (sublist-map g s)
sublist-map g (Sublistᴰ.cons-cons e s) = Sublistᴰ.cons-cons (ap g e) (sublist-map g s)
