-- count over the whole numbers. RULES, times and counts.
use Rattle.std.specs.Prelude.{ℕ, ℤ, pos, negsuc, ◌+ℤ◌}
use Rattle.std.specs.Int.Signed.{shr_z}

-- max(0, x)
abbrev pub positive : ℤ → ℕ
positive (pos n) = n
positive (negsuc n) = 0

-- max(0, 1 + floor(x / T)); shr_z divides towards minus infinity
unfoldable pub countℤ : ℤ → ℕ → ℕ
countℤ x t = positive (pos 1 +ℤ shr_z x t)
