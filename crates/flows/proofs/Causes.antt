-- A law for each way out of the tests.
use Prim.Native.Nat.{ℕ, ◌<◌, ◌≤◌}
use mathlib.Core.Path.{◌≡◌, refl, sym, ap, ◌∙◌}
use mathlib.Core.Bool.{Bool, true, false, not, false≢true}
use Rattle.std.specs.Prelude.{Result, Ok, Err, IsErrAnd}
use borrow.Author.Tests.{eq-eqb, ne_eqb, lt-ltb, le-ltb}
use Rattle.least.proofs.Count.{never_true}
use Rattle.flows.specs.declared.Flow.{Flow}
use Rattle.flows.specs.declared.Cause.TheVariants.{Delays, NumberZero, OutOfRange, NodeTwice}
use Rattle.flows.specs.Refusals.{Ruling, accepted, accepted_by, at_place, cause_in, place_in}
use Rattle.flows.specs.Tests.{most_delay, delay_cause, ranges_fit, distinct, nodes_of, flow_cause}

module _ (lmin lmax : ℕ) where
  pub delays_crossed : lmax < lmin → Err Delays ≡ delay_cause lmin lmax
  unfolding delay_cause
  delays_crossed h = rw (lt-ltb _ _ h)

  pub delays_long : lmin ≤ lmax → most_delay < lmax → Err Delays ≡ delay_cause lmin lmax
  unfolding delay_cause
  delays_long h g = rw (le-ltb _ _ h, lt-ltb _ _ g)

  pub delays_in : lmin ≤ lmax → lmax ≤ most_delay → accepted ≡ delay_cause lmin lmax
  unfolding delay_cause
  delays_in h g = rw (le-ltb _ _ h, le-ltb _ _ g)

module _ (f : Flow) where
  pub cause_number : f.number ≡ 0 → Err NumberZero ≡ flow_cause f
  unfolding flow_cause
  cause_number h = rw (eq-eqb _ _ h)

  module _ (n : f.number ≡ 0 → ⊥) (fit : Bool) (e : fit ≡ ranges_fit f) where
    pub cause_range : not fit ≡ true → Err OutOfRange ≡ flow_cause f
    unfolding flow_cause
    cause_range h = rw (ne_eqb _ _ n, ← e, h)

    module _ (h : not fit ≡ false) (differ : Bool) (g : differ ≡ distinct (nodes_of f)) where
      pub cause_twice : not differ ≡ true → Err NodeTwice ≡ flow_cause f
      unfolding flow_cause
      cause_twice i = rw (ne_eqb _ _ n, ← e, h, ← g, i)

      pub cause_accepted : not differ ≡ false → accepted ≡ flow_cause f
      unfolding flow_cause
      cause_accepted i = rw (ne_eqb _ _ n, ← e, h, ← g, i)

pub accepted_only : (r : Ruling) → accepted_by r ≡ true → r ≡ accepted
accepted_only (Ok tt) e = refl
accepted_only (Err cause) e = absurd (false≢true e)

pub not_accepted : (r : Ruling) → (r ≡ accepted → ⊥) → accepted_by r ≡ false
not_accepted r never = never_true (accepted_by r) (λ e. never (accepted_only r e))

pub refused-never : (r : Ruling) → accepted_by r ≡ false → r ≡ accepted → ⊥
refused-never r e h = false≢true (sym e ∙ ap accepted_by h)

-- what a ? gives back
pub passed_up : {T E : Type 0} (r : Result T E) (e : E) → IsErrAnd r (λ d. d ≡ e) → r ≡ Err e
passed_up (Ok x) e h = absurd h
passed_up (Err d) e h = ap Err h

-- what stands in the outcome of a ruling
pub cause_at : (r : Ruling) (place : ℕ) → cause_in (at_place r place) ≡ r
cause_at (Ok tt) place = refl
cause_at (Err cause) place = refl

pub place_none : (r : Ruling) → place_in (at_place r 0) ≡ 0
place_none (Ok tt) = refl
place_none (Err cause) = refl
