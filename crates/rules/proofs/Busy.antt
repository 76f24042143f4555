-- The busy length is the one that is meant, or there is none. Assumes nothing.
use mathlib.Core.Path.{◌≡◌, ap}
use mathlib.Core.Bool.{Bool, true, false}
use Prim.Native.Nat.{ℕ, ◌*◌, ◌≤◌, ◌<◌}
use native.Mathlib.Omega.{arith}
use native.Mathlib.Nat.{le_refl, mul-le-mul, mul-le-mul_right}
use Rattle.least.specs.Count.{pick, ceil}
use Rattle.least.specs.Fixed.{Rising, Least, cap, floored}
use Rattle.least.proofs.Count.{pick-le, ceil-le, ceil_mono, ceil_pos}
use Rattle.least.proofs.Fold.{sum_le, sum_none}
use Rattle.least.proofs.Fixed.{floored_rising, least_smallest, smallest-least, smallest_unique, cap-least, cap_in, cap_out, least_unique}
use Rattle.rules.specs.Net.{Flow, Net}
use Rattle.rules.specs.Formula.{horizon, role, higher_or_equal, crossings, weight, own_weight, load}
use Rattle.rules.specs.Meaning.{IsBusy}
use Rattle.rules.specs.Judge.{busy_length}
use Rattle.rules.specs.Ready.{Sound, Ready}
use Rattle.rules.proofs.Grow.{others_load, load_is, crossing-flow}

pub busy_unique : (N : Net) (i : Flow) (B C : ℕ) → IsBusy N i B → IsBusy N i C → B ≡ C
busy_unique N i B C p q = smallest_unique p.smallest q.smallest

module _ (N : Net) (i : Flow) (ok : Sound N i) where
  others-rising : Rising (others_load N i)
  unfolding others_load
  others-rising a b h =
      sum_le _ _ (crossings N i)
      (λ j m. pick-le (higher_or_equal (role i j.flow))
      (mul-le-mul_right (weight i.path j) (ceil_mono j.flow.period (ok.periods j.flow (crossing-flow N i m)) h)) (le_refl 0))

  pub load_rising : Rising (load N i)
  load_rising a b h = omega (
    arith,
    load_is N i a,
    load_is N i b,
    others-rising a b h,
    mul-le-mul_right (own_weight i.path i) (ceil_mono i.period ok.period h),
  )

  ceil-zero : (t : ℕ) → 0 < t → ceil 0 t ≡ 0
  ceil-zero t p = omega (arith, ceil-le 0 t 0 p (omega arith))

  pub others_zero : others_load N i 0 ≡ 0
  unfolding others_load
  others_zero = sum_none _ (crossings N i) (λ j m. none (higher_or_equal (role i j.flow)) (weight i.path j) (ceil-zero j.flow.period (ok.periods j.flow (crossing-flow N i m))))
    where
      none : (b : Bool) {c : ℕ} (s : ℕ) → c ≡ 0 → pick b (c * s) 0 ≡ 0
      none true s e = rw e (omega arith)
      none false s e = omega arith

  pub load_zero : load N i 0 ≡ 0
  load_zero = omega (arith, load_is N i 0, others_zero, ap (λ c. c * own_weight i.path i) (ceil-zero i.period ok.period))

  -- the flow's own packet is there from the first tick on
  pub own_load : (b : ℕ) → 0 < b → 0 < ceil b i.period * own_weight i.path i
  own_load b p = omega (arith, mul-le-mul (ceil_pos b i.period ok.period p) ok.cost)

  load_one : 1 ≤ load N i 1
  load_one = omega (arith, load_is N i 1, own_load 1 (omega arith))

  pub busy_capped : Least (cap horizon (floored 1 (load N i))) (busy_length N i)
  unfolding busy_length
  busy_capped = cap-least horizon (floored 1 (load N i)) (floored_rising 1 load_rising)

  pub busy_is : busy_length N i ≤ horizon → IsBusy N i (busy_length N i)
  busy_is h = record { smallest = least_smallest load_rising load_one (cap_in busy_capped h); within = h }

  -- a busy length is the one that is worked out; past the horizon there is none
  pub busy_found : (B : ℕ) → IsBusy N i B → busy_length N i ≡ B
  busy_found B p = least_unique busy_capped (cap_out (smallest-least load_rising load_one p.smallest) p.within)

  pub busy_none : horizon < busy_length N i → (B : ℕ) → IsBusy N i B → ⊥
  busy_none h B p = omega (arith, busy_found B p, p.within)

  -- what raises no B raises no busy length
  pub busy_lowest : (B : ℕ) → 1 ≤ B → load N i B ≤ B → B ≤ horizon → busy_length N i ≤ B
  busy_lowest B p h q = busy_capped.lowest B (omega arith)

module _ (N : Net) (i : Flow) (ok : Ready N i) where
  pub busy_fixed : load N i (busy_length N i) ≡ busy_length N i
  busy_fixed = (busy_is N i ok.sound ok.busy).smallest.fixed

  pub busy_positive : 0 < busy_length N i
  busy_positive = (busy_is N i ok.sound ok.busy).smallest.from
