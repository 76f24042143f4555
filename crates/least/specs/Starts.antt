-- Starting times along a path, at one instant: each is the least solution of a sum that may name those at earlier nodes.
use Rattle.std.specs.Prelude.{ℕ, zero, suc, ◌+◌, ◌*◌, ◌≤◌, ◌<◌}
use Rattle.least.specs.Fixed.{Least, climb}

-- a sum at each node: of the starting times elsewhere, and of the one here
abbrev pub Sums : Type 0 → Type 0
Sums I = I → (I → ℕ) → ℕ → ℕ

-- the nodes of a path, and which stand before which
pub record Order (I : Type 0) : Type 1 where
  pub On : I → Type 0
  pub Before : I → I → Type 0
  pub rank : I → ℕ
  pub on : (l h : I) → Before l h → On l
  pub less : (l h : I) → Before l h → rank l < rank h

module _ {I : Type 0} where
  abbrev pub Starts : Order I → Sums I → (I → ℕ) → Type 0
  Starts P g W = (h : I) → P.On h → Least (g h W) (W h)

  -- Where the starting times before h and at h are at most c greater in g than in g', so is the sum.
  abbrev pub Within : Order I → ℕ → Sums I → Sums I → Type 0
  Within P c g g' =
      (h : I) → P.On h → (x x' : I → ℕ) → ((l : I) → P.Before l h → x l ≤ x' l + c) →
      (w w' : ℕ) → w ≤ w' + c → g h x w ≤ g' h x' w' + c

  -- Worked out from the first node on. B is such that a rise of the starting time by B raises its sum by less.
  unfoldable pub start_to : Sums I → ℕ → ℕ → I → ℕ
  start_to g B zero h = 0
  start_to g B (suc n) h = climb (g h (start_to g B n)) (suc (g h (start_to g B n) 0 * B)) 0
