-- Starting times and response bounds: there, unique, rising; lemma 3; the maximum over every instant. Assumes nothing.
use mathlib.Core.Path.{◌≡◌, refl, ap}
use Prim.Native.Nat.{ℕ, ◌+◌, ◌≤◌, ◌<◌}
use native.Mathlib.Omega.{arith}
use native.Mathlib.Nat.{le_refl}
use lib.ListN.{length}
use Rattle.least.specs.Vector.{◌⊑◌}
use Rattle.least.specs.Starts.{Starts, Within}
use Rattle.least.proofs.Fixed.{least_from-zero, from-zero-least}
use Rattle.least.proofs.Instants.{greatest_unique, greatest_ext, greatest-le, greatest_found}
use Rattle.least.proofs.Starts.{starts_within, starts_unique, starts_found, sum_rises}
use Rattle.rules.specs.Net.{Flow, Net}
use Rattle.rules.specs.Formula.{cost_at, Arrivals, sum}
use Rattle.rules.specs.Meaning.{On, IsStart, IsResponse}
use Rattle.rules.specs.Judge.{busy_length, start, response}
use Rattle.rules.specs.Ready.{Sound, Ready}
use Rattle.rules.proofs.Path.{order, rank_below}
use Rattle.rules.proofs.Grow.{part_refl, load_is, sum_grows, sum_grows_slower}
use Rattle.rules.proofs.Busy.{load_zero, own_load, busy_fixed, busy_positive}

module _ (N : Net) (i : Flow) (ok : Sound N i) where
  -- the sum rises with the arrival bounds, the instant and the starting times
  pub sum_rising : (S S' : Arrivals) → S ⊑ S' → (u u' : ℕ) → u ≤ u' → Within (order i) 0 (sum N i S u) (sum N i S' u')
  sum_rising S S' hS u u' hu h o x x' hx w w' hw =
      omega (
        arith,
        sum_grows N N i (part_refl N) ok.periods S S' hS 0 h u u' (omega arith) x x' hx w w' hw ok.period,
        load_zero N i ok,
      )

  rises_alone : (S : Arrivals) (u : ℕ) → Within (order i) 0 (sum N i S u) (sum N i S u)
  rises_alone S u = sum_rising S S (λ k. le_refl _) u u (le_refl _)

  -- the starting times that are meant are those of the path's order
  pub starts_meant : (S : Arrivals) (W : ℕ → ℕ → ℕ) → ((u : ℕ) → Starts (order i) (sum N i S u) (W u)) → IsStart N i S W
  starts_meant S W s u h o = least_from-zero (s u h o)

  pub meant_starts : (S : Arrivals) (W : ℕ → ℕ → ℕ) → IsStart N i S W → (u : ℕ) → Starts (order i) (sum N i S u) (W u)
  meant_starts S W s u h o = from-zero-least (sum_rises (order i) (sum N i S u) (rises_alone S u) h o (W u)) (s u h o)

  -- unique, and rising with t and S
  pub start_unique : (S : Arrivals) (W W' : ℕ → ℕ → ℕ) → IsStart N i S W → IsStart N i S W' → (u h : ℕ) → On i h → W u h ≡ W' u h
  start_unique S W W' s s' u h o =
      starts_unique (order i) (sum N i S u) (W u) (W' u) (rises_alone S u) (meant_starts S W s u) (meant_starts S W' s' u) h o

  pub start_rises : (S S' : Arrivals) → S ⊑ S' → (W W' : ℕ → ℕ → ℕ) → IsStart N i S W → IsStart N i S' W' →
      (u u' h : ℕ) → u ≤ u' → On i h → W u h ≤ W' u' h
  start_rises S S' hS W W' s s' u u' h hu o = omega (
    arith,
    starts_within (order i) 0 (sum N i S u) (sum N i S' u') (W u) (W' u') (sum_rising S S' hS u u' hu) (meant_starts S W s u) (meant_starts S' W' s' u') h o,
  )

  pub response_unique : (S : Arrivals) (h r r' : ℕ) → On i h → IsResponse N i S h r → IsResponse N i S h r' → r ≡ r'
  response_unique S h r r' o p q =
      greatest_unique p.greatest
      (greatest_ext (λ u. ap (λ v. v + cost_at i.path h + i.jitter) (start_unique S q.W p.W q.start p.start u h o)) q.greatest)

  pub response_rises : (S S' : Arrivals) → S ⊑ S' → (h r r' : ℕ) → On i h → IsResponse N i S h r → IsResponse N i S' h r' → r ≤ r'
  response_rises S S' hS h r r' o p q =
      greatest-le 0 (λ u. omega (arith, start_rises S S' hS p.W q.W p.start q.start u (u + 0) h (omega arith) o)) p.greatest q.greatest

module _ (N : Net) (i : Flow) (ok : Ready N i) where
  abbrev B : ℕ
  B = busy_length N i

  shifted : (S : Arrivals) (u : ℕ) → Within (order i) B (sum N i S (u + B)) (sum N i S u)
  shifted S u h o x x' hx w w' hw =
      omega (
        arith,
        sum_grows N N i (part_refl N) ok.sound.periods S S (λ k. le_refl _) B h (u + B) u (le_refl _) x x' hx w w' hw ok.sound.period,
        busy_fixed N i ok,
      )

  -- lemma 3. RULES, response bounds
  pub lemma_3 : (S : Arrivals) (W : ℕ → ℕ → ℕ) → IsStart N i S W → (u h : ℕ) → On i h → W (u + B) h ≤ W u h + B
  lemma_3 S W s u h o =
      starts_within (order i) B (sum N i S (u + B)) (sum N i S u) (W (u + B)) (W u) (shifted S u)
      (meant_starts N i ok.sound S W s (u + B)) (meant_starts N i ok.sound S W s u) h o

  slow : (S : Arrivals) (u h : ℕ) → On i h → (x : ℕ → ℕ) (w : ℕ) → sum N i S u h x (w + B) < sum N i S u h x w + B
  slow S u h o x w =
      omega (
        arith,
        sum_grows_slower N N i (part_refl N) ok.sound.periods S S (λ k. le_refl _) B h u u (omega arith) x x (λ l b. omega arith) (w + B) w (le_refl _) refl,
        busy_fixed N i ok,
        load_is N i B,
        own_load N i ok.sound B (busy_positive N i ok),
      )

  pub start_is : (S : Arrivals) → IsStart N i S (start N i S)
  unfolding start
  start_is S =
      starts_meant N i ok.sound S (start N i S)
      (λ u. starts_found (order i) (sum N i S u) (rises_alone N i ok.sound S u) B (slow S u) (length i.path) (rank_below i))

  -- B instants decide. RULES, response bounds
  pub response_is : (S : Arrivals) (h : ℕ) → On i h → IsResponse N i S h (response N i S h)
  unfolding response
  response_is S h o = record {
    W = start N i S;
    start = start_is S;
    greatest = greatest_found _ B (busy_positive N i ok) (λ u. omega (arith, lemma_3 S (start N i S) (start_is S) u h o));
  }

  pub response_found : (S : Arrivals) (h r : ℕ) → On i h → IsResponse N i S h r → response N i S h ≡ r
  response_found S h r o p = response_unique N i ok.sound S h (response N i S h) r o (response_is S h o) p
