-- Records in a row, and what writing bytes into a buffer answers and leaves. RULES, writing.
use Rattle.std.specs.Prelude.{ℕ, Result, Ok, Err, cond, List, [], ◌∷◌, ◌++◌, length, drop, ltb}
use Rattle.flows.specs.declared.Cause.TheVariants.{ShortBuffer}
use Rattle.flows.specs.declared.Refusal.{Refusal}

-- one record after the other
unfoldable pub row_bytes : {A : Type 0} → (A → List ℕ) → List A → List ℕ
row_bytes bytes [] = []
row_bytes bytes (x ∷ xs) = bytes x ++ row_bytes bytes xs

-- 13, if size bytes do not fit
unfoldable pub size_written : ℕ → ℕ → Result ℕ Refusal
size_written space size = cond (ltb space size) (Err (record { cause = ShortBuffer; place = 0 })) (Ok size)

-- size bytes, and behind them what was there; where they do not fit, all that was there
unfoldable pub buffer_with : List ℕ → ℕ → List ℕ → List ℕ
buffer_with bytes size old = cond (ltb (length old) size) old (bytes ++ drop size old)
