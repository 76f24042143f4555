-- Terms 1, 2 and 3 count what the rules count over the whole numbers, with t = u − J. RULES, starting time. Assumes nothing.
use mathlib.Core.Path.{◌≡◌, ◌∙◌, ap}
use Prim.Native.Nat.{ℕ, ◌+◌, ◌<◌}
use native.Mathlib.Omega.{arith}
use mathlib.Core.List.{List}
use lib.Dec.{eqb}
use lib.IntN.{ℤ, pos, ◌+ℤ◌, ◌-ℤ◌}
use Rattle.least.specs.Count.{pick, count}
use Rattle.least.specs.Whole.{countℤ}
use Rattle.least.proofs.Count.{count_shift}
use Rattle.least.proofs.Whole.{count-whole, difference_plus, difference_less, difference-add}
use Rattle.rules.specs.Net.{Hop, Flow, Net}
use Rattle.rules.specs.Formula.{first_on, last_on, Crossing, smin, Arrivals, M, plus_a, less_a, term1, term2}

-- A(i,j) = S(j,f) − M(i,f) + J of j
abbrev pub A : Net → Flow → Arrivals → List Hop → Crossing → ℤ
A N i S P j = let f = first_on P j.part in (pos (S (j.flow.number, f)) -ℤ pos (M N i f)) +ℤ pos j.flow.jitter

-- t, for release instant u = t + J
abbrev pub t : Flow → ℕ → ℤ
t i u = pos u -ℤ pos i.jitter

-- the two arguments, gains first and losses second
argument1 : (v m s k j : ℕ) → (pos v -ℤ pos m) +ℤ ((pos s -ℤ pos k) +ℤ pos j) ≡ pos (v + (s + j)) -ℤ pos (m + k)
argument1 v m s k j = ap (λ y. (pos v -ℤ pos m) +ℤ y) (difference_plus s k j) ∙ difference-add v m (s + j) k

argument2 : (u i a m s k j : ℕ) →
    (((pos u -ℤ pos i) +ℤ pos a) -ℤ pos m) +ℤ ((pos s -ℤ pos k) +ℤ pos j) ≡ pos (u + a + (s + j)) -ℤ pos (i + m + k)
argument2 u i a m s k j =
    ap (λ y. (y -ℤ pos m) +ℤ ((pos s -ℤ pos k) +ℤ pos j)) (difference_plus u i a)
    ∙ ap (λ y. y +ℤ ((pos s -ℤ pos k) +ℤ pos j)) (difference_less (u + a) i m)
    ∙ argument1 (u + a) (i + m) s k j

module _ (N : Net) (i : Flow) (S : Arrivals) (P : List Hop) (h : ℕ) where
  pub term1_whole : (x : ℕ → ℕ) (w : ℕ) (j : Crossing) →
      let l = last_on h P j.part in
      countℤ ((pos (pick (eqb l h) w (x l)) -ℤ pos (smin N j.flow l)) +ℤ A N i S P j) j.flow.period ≡ term1 N i S P h x w j
  unfolding term1 plus_a less_a
  term1_whole x w j =
      let l = last_on h P j.part in
      let f = first_on P j.part in
      ap (λ y. countℤ y j.flow.period)
      (argument1 (pick (eqb l h) w (x l)) (smin N j.flow l) (S (j.flow.number, f)) (M N i f) j.flow.jitter)
      ∙ count-whole _ _ j.flow.period

  pub term2_whole : (u : ℕ) (j : Crossing) →
      let g = first_on j.part P in
      countℤ (((t i u +ℤ pos (S (i.number, g))) -ℤ pos (smin N j.flow g)) +ℤ A N i S P j) j.flow.period ≡ term2 N i S P u j
  unfolding term2 plus_a less_a
  term2_whole u j =
      let g = first_on j.part P in
      let f = first_on P j.part in
      ap (λ y. countℤ y j.flow.period)
      (argument2 u i.jitter (S (i.number, g)) (smin N j.flow g) (S (j.flow.number, f)) (M N i f) j.flow.jitter)
      ∙ count-whole _ _ j.flow.period

pub term3-whole : (i : Flow) (u : ℕ) → 0 < i.period → countℤ (t i u +ℤ pos i.jitter) i.period ≡ count u 0 i.period
term3-whole i u p =
    ap (λ y. countℤ y i.period) (difference_plus u i.jitter i.jitter) ∙ count-whole (u + i.jitter) i.jitter i.period
    ∙ ap (λ b. count (u + i.jitter) b i.period) (omega arith) ∙ count_shift u 0 i.jitter i.period p
