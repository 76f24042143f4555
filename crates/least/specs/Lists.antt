-- Numbers at places, and lists by place.
use Rattle.std.specs.Prelude.{◌≡◌, List, [], ◌∷◌, ◌++◌, ℕ, zero, suc, ◌≤◌, ◌<◌, length, get_or}

-- the number at a place; 0 behind the end
abbrev pub values : List ℕ → ℕ → ℕ
values l k = get_or l k 0

-- f at each place below n
unfoldable pub list_to : {A : Type 0} → (ℕ → A) → ℕ → List A
list_to f zero = []
list_to f (suc n) = list_to f n ++ (f n ∷ [])

-- r is the first place below m at which f is below the bound; m, if there is none
pub record First (f : ℕ → ℕ) (m bound r : ℕ) : Type 0 where
  pub most : r ≤ m
  pub before : (k : ℕ) → k < r → bound ≤ f k
  pub found : r < m → f r < bound

-- no number is changed but those from a up to b
pub record Inside (a b : ℕ) (l l' : List ℕ) : Type 0 where
  pub before : (k : ℕ) → k < a → values l' k ≡ values l k
  pub behind : (k : ℕ) → b ≤ k → values l' k ≡ values l k
  pub long : length l' ≡ length l

-- none is changed before that place
pub record Ahead (at : ℕ) (l l' : List ℕ) : Type 0 where
  pub before : (k : ℕ) → k < at → values l' k ≡ values l k
  pub long : length l' ≡ length l
