-- Least fixed points of a rising function on numbers. Assumes nothing.
use mathlib.Core.Path.{◌≡◌, refl, ◌∙◌, sym}
use mathlib.Core.Logic.{◌⊎◌, inl, inr}
use Prim.Native.Nat.{ℕ, zero, suc, ◌+◌, ◌*◌, ◌≤◌, ◌<◌, zero-le}
use native.Mathlib.Omega.{arith}
use native.Mathlib.Nat.{le_refl, le_trans, zero-mul, suc-mul}
use mathlib.Core.Path.{ap}
use borrow.Author.Tests.{le-leb, lt-leb}
use Rattle.least.specs.Fixed.{Rising, Smallest, Least, Under, climb, cap, floored}
use Rattle.least.proofs.Count.{le_or-lt}

pub least_unique : {f : ℕ → ℕ} {w v : ℕ} → Least f w → Least f v → w ≡ v
least_unique {f} {w} {v} p q = omega (arith, p.lowest v (omega arith), q.lowest w (omega arith))

pub least_ext : {f g : ℕ → ℕ} {w : ℕ} → ((x : ℕ) → f x ≡ g x) → Least f w → Least g w
least_ext {f} {g} {w} h p = record { fixed = sym (h w) ∙ p.fixed; lowest = λ v q. p.lowest v (omega (arith, h v)) }

-- rising iteration: from 0, kept by each step, the least one at rest
pub under-zero : (f : ℕ → ℕ) → Under f 0
under-zero f = record { up = zero-le; low = λ v h. zero-le }

pub under_step : {f : ℕ → ℕ} {x : ℕ} → Rising f → Under f x → Under f (f x)
under_step {f} {x} m u = record {
  up = m x (f x) u.up;
  low = λ v h. le_trans (m x v (u.low v h)) h;
}

pub under_ext : {f g : ℕ → ℕ} {x : ℕ} → ((y : ℕ) → f y ≡ g y) → Under f x → Under g x
under_ext {f} {g} {x} h u = record { up = omega (arith, h x, u.up); low = λ v q. u.low v (omega (arith, h v)) }

pub under_done : {f : ℕ → ℕ} {x : ℕ} → Under f x → f x ≤ x → Least f x
under_done {f} {x} u h = record { fixed = omega arith; lowest = u.low }

pub climb_stop : (f : ℕ → ℕ) (k x : ℕ) → f x ≤ x → climb f k x ≡ x
unfolding climb
climb_stop f zero x h = refl
climb_stop f (suc k) x h = rw (le-leb (f x) x h, climb)

pub climb_go : (f : ℕ → ℕ) (k x : ℕ) → x < f x → climb f (suc k) x ≡ climb f k (f x)
unfolding climb
climb_go f k x h = rw (lt-leb (f x) x h, climb)

pub climb_same : (f g : ℕ → ℕ) → ((x : ℕ) → f x ≡ g x) → (k x : ℕ) → climb f k x ≡ climb g k x
unfolding climb
climb_same f g h zero x = refl
climb_same f g h (suc k) x = elim (le_or-lt (f x) x) [
  | inl q ↦ climb_stop f (suc k) x q ∙ sym (climb_stop g (suc k) x (rw (h x) at q))
  | inr q ↦ climb_go f k x q ∙ climb_same f g h k (f x) ∙ ap (climb g k) (h x) ∙ sym (climb_go g k x (rw (h x) at q))
]

climb-under : (f : ℕ → ℕ) → Rising f → (k x : ℕ) → Under f x → Under f (climb f k x)
unfolding climb
climb-under f m zero x u = u
climb-under f m (suc k) x u = elim (le_or-lt (f x) x) [
  | inl q ↦ rw (climb_stop f (suc k) x q) u
  | inr q ↦ rw (climb_go f k x q) (climb-under f m k (f x) (under_step m u))
]

-- it has come to rest, or has gained one at each step
climb-rest : (f : ℕ → ℕ) (k x : ℕ) → (f (climb f k x) ≤ climb f k x) ⊎ (x + k ≤ climb f k x)
unfolding climb
climb-rest f zero x = inr (omega arith)
climb-rest f (suc k) x = elim (le_or-lt (f x) x) [
  | inl q ↦ inl (rw (climb_stop f (suc k) x q) q)
  | inr q ↦ rw (climb_go f k x q) (elim (climb-rest f k (f x)) [ inl r ↦ inl r | inr r ↦ inr (omega arith) ])
]

-- existence: below each v that f does not raise there is a least one, and more than v steps reach it
pub climb-least : (f : ℕ → ℕ) → Rising f → (k v : ℕ) → f v ≤ v → v < k → Least f (climb f k 0)
climb-least f m k v h l = elim (climb-rest f k 0) [
  | inl r ↦ under_done u r
  | inr r ↦ absurd (omega (arith, u.low v h))
]
  where
    u : Under f (climb f k 0)
    u = climb-under f m k 0 (under-zero f)

-- Smallest, by which the rules speak, and Least, by which the proofs do
pub floored_rising : (lo : ℕ) {f : ℕ → ℕ} → Rising f → Rising (floored lo f)
floored_rising lo m a b h = omega (arith, m a b h)

pub least_smallest : {lo : ℕ} {f : ℕ → ℕ} {w : ℕ} → Rising f → lo ≤ f lo → Least (floored lo f) w → Smallest lo f w
least_smallest {lo} {f} {w} m up p = record {
  from = from;
  fixed = omega (arith, p.fixed, m lo w from);
  lowest = λ v h e. p.lowest v (omega arith);
}
  where
    from : lo ≤ w
    from = omega (arith, p.fixed)

pub smallest-least : {lo : ℕ} {f : ℕ → ℕ} {w : ℕ} → Rising f → lo ≤ f lo → Smallest lo f w → Least (floored lo f) w
smallest-least {lo} {f} {w} m up p = record { fixed = omega (arith, p.from, p.fixed); lowest = low }
  where
    low : (v : ℕ) → floored lo f v ≤ v → w ≤ v
    low v h =
        let q = climb-least (floored lo f) (floored_rising lo m) (suc v) v h (le_refl _) in
        let s = least_smallest m up q in
        le_trans (p.lowest _ s.from s.fixed) (q.lowest v h)

pub smallest_unique : {lo : ℕ} {f : ℕ → ℕ} {w v : ℕ} → Smallest lo f w → Smallest lo f v → w ≡ v
smallest_unique {lo} {f} {w} {v} p q = omega (arith, p.lowest v q.from q.fixed, q.lowest w p.from p.fixed)

pub least_from-zero : {f : ℕ → ℕ} {w : ℕ} → Least f w → Smallest 0 f w
least_from-zero {f} {w} p = record { from = zero-le; fixed = p.fixed; lowest = λ v h e. p.lowest v (omega arith) }

pub from-zero-least : {f : ℕ → ℕ} {w : ℕ} → Rising f → Smallest 0 f w → Least f w
from-zero-least {f} {w} m p = least_ext (λ x. omega arith) (smallest-least m zero-le p)

-- held at H + 1: the least fixed point is always there, and is f's where it is at most H
pub cap_rising : (H : ℕ) {f : ℕ → ℕ} → Rising f → Rising (cap H f)
cap_rising H m a b h = omega (arith, m a b h)

pub cap-least : (H : ℕ) (f : ℕ → ℕ) → Rising f → Least (cap H f) (climb (cap H f) (suc (suc H)) 0)
cap-least H f m = climb-least (cap H f) (cap_rising H m) (suc (suc H)) (suc H) (omega arith) (omega arith)

pub cap_in : {H : ℕ} {f : ℕ → ℕ} {w : ℕ} → Least (cap H f) w → w ≤ H → Least f w
cap_in {H} {f} {w} p h = record { fixed = omega (arith, p.fixed); lowest = λ v q. p.lowest v (omega arith) }

pub cap_out : {H : ℕ} {f : ℕ → ℕ} {w : ℕ} → Least f w → w ≤ H → Least (cap H f) w
cap_out {H} {f} {w} p h = record { fixed = omega (arith, p.fixed); lowest = low }
  where
    low : (v : ℕ) → cap H f v ≤ v → w ≤ v
    low v q = elim (le_or-lt v H) [ inl r ↦ p.lowest v (omega arith) | inr r ↦ omega arith ]

-- existence where a rise of x by B raises f by less
slower : (f : ℕ → ℕ) (B : ℕ) → ((x : ℕ) → f (x + B) < f x + B) → (n : ℕ) → f (n * B) + n ≤ f 0 + n * B
slower f B h zero = omega (arith, ap f (zero-mul B))
slower f B h (suc n) = omega (arith, ap f (suc-mul n B), h (n * B), slower f B h n)

pub slow-least : (f : ℕ → ℕ) (B : ℕ) → Rising f → ((x : ℕ) → f (x + B) < f x + B) → Least f (climb f (suc (f 0 * B)) 0)
slow-least f B m h = climb-least f m (suc (f 0 * B)) (f 0 * B) (omega (arith, slower f B h (f 0))) (le_refl _)
