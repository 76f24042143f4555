-- Starting times along a path: compared, unique, and there. Assumes nothing.
use mathlib.Core.Path.{◌≡◌}
use Prim.Native.Nat.{ℕ, zero, suc, ◌+◌, ◌≤◌, ◌<◌}
use native.Mathlib.Omega.{arith}
use native.Mathlib.Nat.{le_refl}
use Rattle.least.specs.Fixed.{Rising, Least}
use Rattle.least.specs.Starts.{Sums, Order, Starts, Within, start_to}
use Rattle.least.proofs.Fixed.{least_ext, slow-least}

module _ {I : Type 0} (P : Order I) where
  within-below : (c : ℕ) (g g' : Sums I) (W W' : I → ℕ) → Within P c g g' → Starts P g W → Starts P g' W' →
      (n : ℕ) (h : I) → P.On h → P.rank h < n → W h ≤ W' h + c
  within-below c g g' W W' k s s' zero h o q = absurd (omega arith)
  within-below c g g' W W' k s s' (suc n) h o q =
      (s h o).lowest (W' h + c)
      (omega (
        arith,
        k h o W W' (λ l b. within-below c g g' W W' k s s' n l (P.on l h b) (omega (arith, P.less l h b))) (W' h + c) (W' h) (le_refl _),
        (s' h o).fixed,
      ))

  -- Sums within c of one another have starting times within c of one another. With c = 0 this compares two instants, two vectors
  -- of arrival bounds or two sets of flows; with c = B, t + B against t, it is lemma 3. RULES, response bounds.
  pub starts_within : (c : ℕ) (g g' : Sums I) (W W' : I → ℕ) → Within P c g g' → Starts P g W → Starts P g' W' → (h : I) → P.On h → W h ≤ W' h + c
  starts_within c g g' W W' k s s' h o = within-below c g g' W W' k s s' (suc (P.rank h)) h o (le_refl _)

  pub starts_unique : (g : Sums I) (W W' : I → ℕ) → Within P 0 g g → Starts P g W → Starts P g W' → (h : I) → P.On h → W h ≡ W' h
  starts_unique g W W' k s s' h o = omega (arith, starts_within 0 g g W W' k s s' h o, starts_within 0 g g W' W k s' s h o)

  module _ (g : Sums I) (rises : Within P 0 g g) where
    pub sum_rises : (h : I) → P.On h → (x : I → ℕ) → Rising (g h x)
    sum_rises h o x a b q = omega (arith, rises h o x x (λ l r. omega arith) a b (omega arith))

    -- existence, where a rise of the starting time by B raises its sum by less
    module _ (B : ℕ) (slow : (h : I) → P.On h → (x : I → ℕ) (w : ℕ) → g h x (w + B) < g h x w + B) where
      to-least : (n : ℕ) (h : I) → P.On h → Least (g h (start_to g B n)) (start_to g B (suc n) h)
      unfolding start_to
      to-least n h o = slow-least (g h (start_to g B n)) B (sum_rises h o (start_to g B n)) (slow h o (start_to g B n))

      -- more depth than needed changes nothing
      deeper : (n m : ℕ) (h : I) → P.On h → P.rank h < n → P.rank h < m → start_to g B n h ≤ start_to g B m h + 0
      deeper zero m h o p q = absurd (omega arith)
      deeper (suc n) zero h o p q = absurd (omega arith)
      deeper (suc n) (suc m) h o p q =
          (to-least n h o).lowest (start_to g B (suc m) h + 0)
          (omega (
            arith,
            rises h o (start_to g B n) (start_to g B m)
                (λ l b. deeper n m l (P.on l h b) (omega (arith, P.less l h b)) (omega (arith, P.less l h b)))
                (start_to g B (suc m) h + 0) (start_to g B (suc m) h) (le_refl _),
            (to-least m h o).fixed,
          ))

      pub starts_found : (N : ℕ) → ((h : I) → P.On h → P.rank h < N) → Starts P g (start_to g B N)
      starts_found zero all h o = absurd (omega (arith, all h o))
      starts_found (suc n) all h o = least_ext same (to-least n h o)
        where
          down : (l : I) → P.Before l h → start_to g B n l ≤ start_to g B (suc n) l + 0
          down l b = deeper n (suc n) l (P.on l h b) (omega (arith, P.less l h b, all h o)) (all l (P.on l h b))

          up : (l : I) → P.Before l h → start_to g B (suc n) l ≤ start_to g B n l + 0
          up l b = deeper (suc n) n l (P.on l h b) (all l (P.on l h b)) (omega (arith, P.less l h b, all h o))

          same : (w : ℕ) → g h (start_to g B n) w ≡ g h (start_to g B (suc n)) w
          same w = omega (
            arith,
            rises h o (start_to g B n) (start_to g B (suc n)) down w w (omega arith),
            rises h o (start_to g B (suc n)) (start_to g B n) up w w (omega arith),
          )
