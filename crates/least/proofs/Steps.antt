-- The next step of a count and of a sum, and that what lies between two steps adds nothing to a maximum. Assumes nothing.
use mathlib.Core.Path.{◌≡◌, sym, ap, ◌∙◌}
use mathlib.Core.Logic.{inl, inr}
use Prim.Native.Nat.{ℕ, zero, suc, ◌+◌, ◌-◌, ◌/◌, ◌%◌, ◌≤◌, ◌<◌, min}
use native.Mathlib.Omega.{arith}
use native.Mathlib.Nat.{mod-lt, div-add-mod'}
use native.Mathlib.Numerals.{add-one}
use Rattle.least.specs.Count.{count}
use Rattle.least.specs.Fold.{sum_to}
use Rattle.least.specs.Instants.{best_to}
use Rattle.least.specs.Steps.{Step}
use Rattle.least.proofs.Count.{le_or-lt, count_in_lem, count_out, count-le, le-count, div-none, count_rises}

pub step-one : {φ : ℕ → ℕ} {u end r s : ℕ} → Step φ u end r → Step φ u end s → r ≡ s
step-one {φ} {u} {end} {r} {s} p q = elim (le_or-lt r s) [
  | inl h ↦ elim (le_or-lt s r) [
    | inl g ↦ omega arith
    | inr g ↦ absurd (omega (arith, p.later, p.up (omega (arith, q.most)), q.still r (omega (arith, p.later)) g))
  ]
  | inr h ↦ absurd (omega (arith, q.later, q.up (omega (arith, p.most)), p.still s (omega (arith, q.later)) h))
]

pub step_ext : {φ ψ : ℕ → ℕ} {u end r : ℕ} → ((v : ℕ) → φ v ≡ ψ v) → Step φ u end r → Step ψ u end r
step_ext {φ} {ψ} {u} {end} {r} e p = record {
  later = p.later;
  most = p.most;
  still = λ v a b. omega (arith, e v, e u, p.still v a b);
  up = λ h. omega (arith, e u, e r, p.up h);
}

-- what never changes has no step
pub step-none : {φ : ℕ → ℕ} {u end : ℕ} → ((v : ℕ) → u ≤ v → φ v ≡ φ u) → u < end → Step φ u end end
step-none {φ} {u} {end} h q = record { later = q; most = omega arith; still = λ v a b. h v a; up = λ z. absurd (omega arith) }

-- from a later instant before it the next step is the same
pub step-on : {φ : ℕ → ℕ} {u end r v : ℕ} → Step φ u end r → u ≤ v → v < r → Step φ v end r
step-on {φ} {u} {end} {r} {v} p h q = record {
  later = q;
  most = p.most;
  still = λ t a b. p.still t (omega arith) b ∙ sym (p.still v h q);
  up = λ z. omega (arith, p.up z, p.still v h q);
}

-- what steps up wherever ψ does has no later step
pub step_first : {φ ψ : ℕ → ℕ} {u end r s : ℕ} → ((v : ℕ) → u ≤ v → ψ u < ψ v → φ u < φ v) → Step φ u end r → Step ψ u end s → r ≤ s
step_first {φ} {ψ} {u} {end} {r} {s} with_it p q = elim (le_or-lt r s) [
  | inl h ↦ h
  | inr h ↦ absurd (omega (
    arith,
    with_it s (omega (arith, q.later)) (q.up (omega (arith, p.most))),
    p.still s (omega (arith, q.later)) h,
  ))
]

-- of a sum the next step is the first of both
pub step_both : {φ ψ : ℕ → ℕ} {u end r s : ℕ} → ((v : ℕ) → u ≤ v → ψ u ≤ ψ v) → Step φ u end r → Step ψ u end s →
    Step (λ v. φ v + ψ v) u end (min r s)
step_both {φ} {ψ} {u} {end} {r} {s} rises p q = record {
  later = omega (arith, p.later, q.later);
  most = omega (arith, p.most);
  still = λ v a b. omega (arith, p.still v a (omega arith), q.still v a (omega arith));
  up = λ h. elim (le_or-lt r s) [
    | inl z ↦ (let e : min r s ≡ r = omega arith in rw e (omega (arith, p.up (omega arith), rises r (omega (arith, p.later)))))
    | inr z ↦ (let e : min r s ≡ s = omega arith in rw e (omega (arith, q.up (omega arith), p.still s (omega (arith, q.later)) z)))
  ];
}

-- the sum over one number more
pub step_more : (f : ℕ → ℕ → ℕ) (u end j r s : ℕ) → ((v : ℕ) → u ≤ v → f u j ≤ f v j) → Step (λ v. sum_to j (f v)) u end r → Step (λ v. f v j) u end s →
    Step (λ v. sum_to (j + 1) (f v)) u end (min r s)
unfolding sum_to
step_more f u end j r s rises p q = rw (add-one j) (step_both rises p q)

-- what keeps the order keeps the steps
pub step_map : {φ : ℕ → ℕ} {u end r : ℕ} (f : ℕ → ℕ) → ((a b : ℕ) → a < b → f a < f b) → Step φ u end r → Step (λ v. f (φ v)) u end r
step_map {φ} {u} {end} {r} f keeps p = record {
  later = p.later;
  most = p.most;
  still = λ v a b. ap f (p.still v a b);
  up = λ z. keeps (φ u) (φ r) (p.up z);
}

-- the ways to the next step of count(v + a − b, T)
module _ (a b t u end : ℕ) (on : u < end) where
  pub count_first : u + a < b → Step (λ v. count (v + a) b t) u end (min (b - a) end)
  count_first h = record {
    later = omega arith;
    most = omega arith;
    still = λ v l m. omega (arith, count_out (v + a) b t (omega arith), count_out (u + a) b t h);
    up = λ z. omega (arith, count_out (u + a) b t h, count_in_lem (min (b - a) end + a) b t (omega arith));
  }

  pub count_ever : b ≤ u + a → t ≡ 0 → Step (λ v. count (v + a) b t) u end end
  count_ever h z = step-none (λ v l. omega (
    arith,
    count_in_lem (v + a) b t (omega arith),
    count_in_lem (u + a) b t h,
    div-none (v + a - b) t (omega arith),
    div-none (u + a - b) t (omega arith),
  )) on

  module _ (h : b ≤ u + a) (p : 0 < t) where
    rest : (u + a - b) % t < t
    rest = mod-lt (u + a - b) {m = t} p

    pub count_next : Step (λ v. count (v + a) b t) u end (min (u + (t - (u + a - b) % t)) end)
    count_next = record {
      later = omega (arith, rest);
      most = omega arith;
      still = λ v l m. omega (
        arith,
        count_rises {a = u + a} {a' = v + a} b t (omega arith),
        count-le (v + a) b t (1 + (u + a - b) / t) p (omega (arith, div-add-mod' (u + a - b) t)),
        count_in_lem (u + a) b t h,
      );
      up = λ z. elim (le_or-lt (count (min (u + (t - (u + a - b) % t)) end + a) b t) (1 + (u + a - b) / t)) [
        | inl q ↦ absurd (omega (arith, le-count (min (u + (t - (u + a - b) % t)) end + a) b t (1 + (u + a - b) / t) p q, div-add-mod' (u + a - b) t, rest))
        | inr q ↦ omega (arith, count_in_lem (u + a) b t h)
      ];
    }

-- what stays while the instant goes on adds nothing to the best
pub best-still : (φ : ℕ → ℕ) (u r : ℕ) → u < r → ((t : ℕ) → u ≤ t → t < r → φ t ≡ φ u) → best_to φ r ≡ best_to φ (suc u)
unfolding best_to
best-still φ u zero h s = absurd (omega arith)
best-still φ u (suc r) h s = elim (le_or-lt r u) [
  | inl q ↦ (let z : r ≡ u = omega arith in ap (λ k. best_to φ (suc k)) z)
  | inr q ↦ omega (arith, best-still φ u r q (λ t a b. s t a (omega arith)), s r (omega arith) (omega arith))
]
