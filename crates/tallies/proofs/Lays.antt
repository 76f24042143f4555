-- The steps of a count, one period after another, and what is laid of them in a tally. Assumes nothing.
use mathlib.Core.Path.{◌≡◌, refl, ap, ◌∙◌}
use mathlib.Core.Bool.{Bool, true, false}
use mathlib.Core.Logic.{inl, inr}
use mathlib.Core.List.{List}
use Prim.Native.Nat.{ℕ, ◌+◌, ◌-◌, ◌*◌, ◌≤◌, ◌<◌}
use native.Mathlib.Omega.{arith}
use native.Mathlib.Nat.{mul-le-mul, div-lt_iff_lt-mul}
use lib.Dec.{eqb}
use lib.ListN.{length, set, length-set}
use lib.Seq.{get_or-set_same, get_or-set_other}
use borrow.Author.Tests.{eqb-true, eqb-false}
use Rattle.least.specs.Count.{count}
use Rattle.least.specs.Lists.{values}
use Rattle.least.proofs.Count.{le_or-lt, count_in_lem, count_out, count-le, le-count, count_rises, count_tick, div-none}

-- d ticks on, count(a + d − b, T) steps up
pub record OnStep (a b t d : ℕ) : Type 0 where
  pub later : 0 < d
  pub exact : d + a ≡ b + count (d - 1 + a) b t * t

module _ (a b t : ℕ) (some : 0 < t) where
  -- up to the first step the count is what it was
  module _ (c : ℕ) (is : c ≡ count a b t) where
    pub step_later : a < b + c * t
    step_later = le-count a b t c some (omega arith)

    pub step_before : (i : ℕ) → i < b + c * t - a → count (i + a) b t ≡ c
    step_before i h = omega (arith, count-le (i + a) b t c some (omega (arith, step_later)), count_rises {a = a} {a' = i + a} b t (omega arith))

    pub step_first : OnStep a b t (b + c * t - a)
    step_first = record {
      later = omega (arith, step_later);
      exact = omega (arith, step_later, ap (λ x. x * t) (step_before (b + c * t - a - 1) (omega (arith, step_later))));
    }

  module _ (d : ℕ) (on : OnStep a b t d) where
    pub step_up : count (d + a) b t ≡ count (d - 1 + a) b t + 1
    step_up = elim (le_or-lt (count (d + a) b t) (count (d - 1 + a) b t)) [
      | inl h ↦ absurd (omega (arith, le-count (d + a) b t (count (d - 1 + a) b t) some h, on.exact))
      | inr h ↦ omega (arith, count_tick (d - 1 + a) (d + a) b t (omega (arith, on.later)))
    ]

    pub step_still : (v : ℕ) → d ≤ v → v < d + t → count (v + a) b t ≡ count (d + a) b t
    step_still v h g = omega (
      arith,
      step_up,
      count_rises {a = d + a} {a' = v + a} b t (omega arith),
      count-le (v + a) b t (count (d - 1 + a) b t + 1) some (omega (arith, on.exact)),
    )

    pub step_next : OnStep a b t (d + t)
    step_next = record {
      later = omega arith;
      exact = omega (arith, on.exact, ap (λ x. x * t) (step_still (d + t - 1) (omega arith) (omega arith) ∙ step_up));
    }

-- the ticks before d are laid, from d on nothing is
pub record Laying (a b t w : ℕ) (tally₀ tally : List ℕ) (d : ℕ) : Type 0 where
  pub step : OnStep a b t d
  pub first : values tally 0 ≡ values tally₀ 0
  pub each : (i : ℕ) → i + 1 < d → values tally (i + 1) + count (i + a) b t * w ≡ values tally₀ (i + 1) + count (i + 1 + a) b t * w
  pub rest : (i : ℕ) → d ≤ i → values tally i ≡ values tally₀ i
  pub long : length tally ≡ length tally₀

module _ (a b t w : ℕ) (some : 0 < t) (tally₀ : List ℕ) where
  pub laying_none : (c : ℕ) → c ≡ count a b t → Laying a b t w tally₀ tally₀ (b + c * t - a)
  laying_none c is = record {
    step = step_first a b t some c is;
    first = refl;
    each = λ i h. omega (arith, ap (λ x. x * w) (step_before a b t some c is i (omega arith)), ap (λ x. x * w) (step_before a b t some c is (i + 1) h));
    rest = λ i h. refl;
    long = refl;
  }

  module _ (tally : List ℕ) (d : ℕ) (l : Laying a b t w tally₀ tally d) where
    pub laying_more : d < length tally → Laying a b t w tally₀ (set tally d (values tally d + w)) (d + t)
    laying_more on = record {
      step = step_next a b t some d l.step;
      first = get_or-set_other tally d 0 (values tally d + w) 0 (λ z. omega (arith, l.step.later)) ∙ l.first;
      each = λ i h. go i h (eqb (i + 1) d) refl;
      rest = λ i h. get_or-set_other tally d i (values tally d + w) 0 (λ z. omega arith) ∙ l.rest i (omega arith);
      long = length-set tally d (values tally d + w) ∙ l.long;
    }
      where
        go : (i : ℕ) → i + 1 < d + t → (s : Bool) → eqb (i + 1) d ≡ s →
            values (set tally d (values tally d + w)) (i + 1) + count (i + a) b t * w ≡ values tally₀ (i + 1) + count (i + 1 + a) b t * w
        go i h true e =
            let is : i + 1 ≡ d = eqb-true (i + 1) d e in
            let back : i ≡ d - 1 = omega arith in
            omega (
              arith,
              ap (values (set tally d (values tally d + w))) is,
              get_or-set_same tally d (values tally d + w) 0 on,
              l.rest d (omega arith),
              ap (values tally₀) is,
              ap (λ x. count (x + a) b t * w) is,
              ap (λ x. count (x + a) b t * w) back,
              ap (λ x. x * w) (step_up a b t some d l.step),
            )
        go i h false e =
            let ne = eqb-false (i + 1) d e in
            let same = get_or-set_other tally d (i + 1) (values tally d + w) 0 ne in
            elim (le_or-lt d (i + 1)) [
              | inl q ↦ omega (
                arith,
                same,
                l.rest (i + 1) q,
                ap (λ x. x * w) (step_still a b t some d l.step i (omega (arith, ne)) (omega arith)),
                ap (λ x. x * w) (step_still a b t some d l.step (i + 1) q h),
              )
              | inr q ↦ omega (arith, same, l.each i q)
            ]

-- no time is so long that a second packet would be counted; with no period there is one, too
pub count_far : (t a b : ℕ) → t ≡ 0 → a < 134217728 → count a b 134217728 ≡ count a b t
count_far t a b none h = elim (le_or-lt b a) [
  | inl q ↦ omega (arith, count_in_lem a b 134217728 q, count_in_lem a b t q, div-none (a - b) t (omega arith), (div-lt_iff_lt-mul {k = 134217728} {x = a - b} {y = 1} (omega arith)).1 (omega arith))
  | inr q ↦ omega (arith, count_out a b 134217728 q, count_out a b t q)
]

pub weigh-small : (c w : ℕ) → c ≤ 67108864 → w < 16777216 → c * w < 2251799813685248
weigh-small c w h g = omega (arith, mul-le-mul {n₁ = c} {m₁ = w} {n₂ = 67108864} {m₂ = 16777215} h (omega arith))
