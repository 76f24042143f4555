-- The next step of a sheet, node by node; and between two steps no sum changes, so no starting time does, and W + C − u falls. Assumes nothing.
use mathlib.Core.Path.{◌≡◌, refl}
use mathlib.Core.Bool.{Bool, true, false}
use mathlib.Core.Logic.{inl, inr}
use mathlib.Core.List.{List}
use Prim.Native.Nat.{ℕ, zero, suc, ◌+◌, ◌-◌, ◌*◌, ◌≤◌, ◌<◌, min}
use native.Mathlib.Omega.{arith}
use lib.Dec.{eqb}
use Rattle.least.specs.Count.{pick, count}
use Rattle.least.specs.Fold.{sum_to}
use Rattle.least.specs.Lists.{values}
use Rattle.least.specs.Instants.{best_to, since}
use Rattle.least.proofs.Count.{le_or-lt}
use Rattle.least.proofs.Fold.{sum_to-lt, sum_to_ext}
use Rattle.least.proofs.Fixed.{least_ext}
use Rattle.least.proofs.Instants.{since_on}
use Rattle.least.proofs.Steps.{step-none, step_first, step_more, best-still}
use Rattle.blocks.specs.Sheet.{here_slot, instant_slot, entries_in, entry_at, term_of, look_term, instant_sum, seen, sums, Fit}
use Rattle.steps.specs.Steps.{NodeStep}
use Rattle.blocks.proofs.Looks.{sheet_split}
use Rattle.steps.proofs.Steps.{sum_rises}
use Rattle.starts.specs.Runs.{StartsOf, reply_at}
use Rattle.starts.specs.Steps.{SheetStep}
use Rattle.starts.proofs.Sums.{start_found}

module _ (e : List ℕ) (u end : ℕ) where
  pub nodes_none : u < end → SheetStep e 0 u end end
  unfolding sum_to
  nodes_none on = step-none (λ v h. refl) on

  pub nodes_more : (p r s : ℕ) → SheetStep e p u end r → NodeStep e p u end s → SheetStep e (p + 1) u end (min r s)
  nodes_more p r s a b = step_more (λ v i. instant_sum e i v) u end p r s (λ v h. sum_rises e u v h p) a b

module _ (e : List ℕ) (m u end r : ℕ) (s : SheetStep e m u end r) (p : ℕ) (on : p < m) where
  up-together : (v : ℕ) → u ≤ v → instant_sum e p u < instant_sum e p v → sum_to m (λ p. instant_sum e p u) < sum_to m (λ p. instant_sum e p v)
  up-together v h q = sum_to-lt m p (λ p. instant_sum e p u) (λ p. instant_sum e p v) on (λ j z. sum_rises e u v h j) q

  node-still : (v : ℕ) → u ≤ v → v < r → instant_sum e p v ≡ instant_sum e p u
  node-still v from to = elim (le_or-lt (instant_sum e p v) (instant_sum e p u)) [
    | inl h ↦ omega (arith, sum_rises e u v from p)
    | inr h ↦ absurd (omega (arith, up-together v from h, s.still v from to))
  ]

  -- no node steps before the sheet does
  pub node_late : (t : ℕ) → NodeStep e p u end t → r ≤ t
  node_late t step = step_first up-together s step

-- a count that looks elsewhere does not see the instant
look-still : (e : List ℕ) (x : ℕ → ℕ) (w u v k : ℕ) → look_term e (seen x w v) k ≡ look_term e (seen x w u) k
unfolding look_term term_of
look-still e x w u v k = go (eqb (values e k) here_slot) (eqb (values e k) instant_slot)
  where
    adds : ℕ → ℕ
    adds s = count (s + values e (k + 1)) (values e (k + 2)) (values e (k + 3)) * values e (k + 4)

    go : (a b : Bool) → pick b 0 (adds (pick a w (pick b v (x (values e k - 2))))) ≡ pick b 0 (adds (pick a w (pick b u (x (values e k - 2)))))
    go a true = refl
    go a false = refl

pub sum-still : (e : List ℕ) (m u end r : ℕ) → SheetStep e m u end r → (v : ℕ) → u ≤ v → v < r →
    (p : ℕ) → p < m → (x : ℕ → ℕ) (w : ℕ) → sums e v p x w ≡ sums e u p x w
sum-still e m u end r s v from to p on x w = omega (
  arith,
  sheet_split e p (seen x w v),
  sheet_split e p (seen x w u),
  node-still e m u end r s p on v from to,
  sum_to_ext (entries_in e p) (λ q. look_term e (seen x w v) (entry_at e p q)) (λ q. look_term e (seen x w u) (entry_at e p q)) (λ q h. look-still e x w u v (entry_at e p q)),
)

module _ (e : List ℕ) (m : ℕ) (fit : Fit e m) (W : ℕ → ℕ → ℕ) (starts : StartsOf e m W) (u end r : ℕ) (s : SheetStep e m u end r) where
  module _ (v : ℕ) (from : u ≤ v) (to : v < r) where
    starts-below : (b p : ℕ) → p < b → p < m → W v p ≡ W u p
    starts-below zero p h on = absurd (omega arith)
    starts-below (suc b) p h on =
        start_found e m fit W starts u p (W v p) on (W v) (λ l q. starts-below b l (omega arith) (omega arith))
        (least_ext (sum-still e m u end r s v from to p on (W v)) (starts v p on))

    pub starts_still : (p : ℕ) → p < m → W v p ≡ W u p
    starts_still p on = starts-below (suc p) p (omega arith) on

  pub best_kept : (from : ℕ) → from ≤ u → (p : ℕ) → p < m → best_to (since from (reply_at e W p)) r ≡ best_to (since from (reply_at e W p)) (suc u)
  best_kept from h p on = best-still (since from (reply_at e W p)) u r s.later (λ v a b. omega (
    arith,
    since_on from (reply_at e W p) v (omega arith),
    since_on from (reply_at e W p) u h,
    starts_still v a b p on,
  ))
