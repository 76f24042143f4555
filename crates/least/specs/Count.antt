-- How many packets in a span: count, ceil, and the choice by a test.
use Rattle.std.specs.Prelude.{Bool, true, false, ℕ, ◌+◌, ◌-◌, ◌/◌, leb}

abbrev pub pick : {A : Type 0} → Bool → A → A → A
pick true a b = a
pick false a b = b

-- count(a − b, T) = max(0, 1 + floor((a − b) / T))
unfoldable pub count : ℕ → ℕ → ℕ → ℕ
count a b t = pick (leb b a) (1 + (a - b) / t) 0

-- ceil(b / T)
unfoldable pub ceil : ℕ → ℕ → ℕ
ceil b t = (b + (t - 1)) / t
