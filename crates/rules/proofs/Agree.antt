-- What a response bound reads: the arrival bounds of the higher and equal flows that cross, and its own if an equal flow does. Assumes nothing.
use mathlib.Core.Path.{◌≡◌, refl, sym, ap, ap₂, ◌∙◌}
use mathlib.Core.Logic.{inl, inr}
use mathlib.Core.List.{Memᴰ}
use Prim.Native.Nat.{ℕ, ◌+◌, ◌*◌, ◌≤◌, ◌<◌}
use native.Mathlib.Omega.{arith}
use native.Mathlib.Nat.{mul-zero}
use lib.Dec.{eqb}
use Rattle.least.specs.Count.{pick, count}
use Rattle.least.proofs.Count.{le_or-lt}
use Rattle.least.proofs.Fold.{sum_ext}
use Rattle.rules.specs.Net.{Flow, Net}
use Rattle.rules.specs.Formula.{Role, Own, Higher, Equal, Lower, role, prefix, first_on, last_on, smin, Crossing, crossings, Arrivals, weight, plus_a, less_a, term1, term2, packets, others, sum}
use Rattle.rules.specs.Meaning.{On}
use Rattle.rules.specs.Judge.{response}
use Rattle.rules.specs.Ready.{Ready, Agree}
use Rattle.rules.proofs.Grow.{slowest-prefix}
use Rattle.rules.proofs.Start.{response_is, response_found}

module _ (N : Net) (i : Flow) (S S' : Arrivals) (agree : Agree N i S S') where
  product : (c c' s t : ℕ) → s ≤ t → (0 < t → c ≡ c') → c * s ≡ c' * s
  product c c' s t q h = elim (le_or-lt t 0) [
    | inl z ↦ let e : s ≡ 0 = omega arith in ap (λ x. c * x) e ∙ mul-zero c ∙ sym (mul-zero c') ∙ ap (λ x. c' * x) (sym e)
    | inr p ↦ ap (λ x. x * s) (h p)
  ]

  packets_agree : (u h : ℕ) (x : ℕ → ℕ) (w : ℕ) (j : Crossing) → Memᴰ j (crossings N i) → (ρ : Role) → role i j.flow ≡ ρ →
      let P = prefix h i.path in packets N i S P h u x w j ρ * weight P j ≡ packets N i S' P h u x w j ρ * weight P j
  unfolding packets term1 term2 plus_a weight
  packets_agree u h x w j m Own q = refl
  packets_agree u h x w j m Higher q =
      let P = prefix h i.path in
      let l = last_on h P j.part in
      product _ _ _ _ (slowest-prefix h i.path j.part)
      (λ p. ap (λ s. count (pick (eqb l h) w (x l) + (s + j.flow.jitter)) (smin N j.flow l + less_a N i P j) j.flow.period)
      (agree.higher j m p q (first_on P j.part)))
  packets_agree u h x w j m Equal q =
      let P = prefix h i.path in
      let g = first_on j.part P in
      product _ _ _ _ (slowest-prefix h i.path j.part)
      (λ p. ap₂ (λ s t. count (u + s + (t + j.flow.jitter)) (i.jitter + smin N j.flow g + less_a N i P j) j.flow.period)
      (agree.own j m p q g) (agree.equal j m p q (first_on P j.part)))
  packets_agree u h x w j m Lower q = refl

  sum_agree : (u h : ℕ) (x : ℕ → ℕ) (w : ℕ) → sum N i S u h x w ≡ sum N i S' u h x w
  unfolding sum others
  sum_agree u h x w = omega (
    arith,
    sum_ext _ _ (crossings N i) (λ j m. packets_agree u h x w j m (role i j.flow) refl),
  )

  -- so the response bounds agree
  pub response_agree : Ready N i → (h : ℕ) → On i h → response N i S h ≡ response N i S' h
  response_agree ready h o =
      let r = response_is N i ready S' h o in
      response_found N i ready S h (response N i S' h) o (record {
        W = r.W;
        start = λ u k q. record {
          from = (r.start u k q).from;
          fixed = sum_agree u k (r.W u) (r.W u k) ∙ (r.start u k q).fixed;
          lowest = λ v l e. (r.start u k q).lowest v l (sym (sum_agree u k (r.W u) v) ∙ e);
        };
        greatest = r.greatest;
      })
