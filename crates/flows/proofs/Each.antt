-- A test of every element, and of no number twice, as a loop makes it: what is left from place k decides.
use Prim.Native.Nat.{ℕ, ◌+◌, ◌<◌, ◌≤◌}
use mathlib.Core.Path.{◌≡◌}
use mathlib.Core.Bool.{Bool, true, false}
use mathlib.Core.List.{List}
use native.Mathlib.Numerals.{add-one}
use lib.ListN.{length, get_or, drop, drop_of_length-le}
use lib.Seq.{drop-cons}
use Rattle.flows.specs.Tests.{every, distinct, new_to}

-- e is the whole test
module _ {A : Type 0} (p : A → Bool) (l : List A) (k : ℕ) (d : A) (e : Bool) (inv : every p (drop k l) ≡ e) where
  pub every_more : k < length l → p (get_or l k d) ≡ true → every p (drop (k + 1) l) ≡ e
  unfolding every
  every_more h t = rw add-one (rw (drop-cons l k d h, t) at inv)

  pub every_fails : k < length l → p (get_or l k d) ≡ false → false ≡ e
  unfolding every
  every_fails h t = rw (drop-cons l k d h, t) at inv

  pub every_end : length l ≤ k → true ≡ e
  unfolding every
  every_end h = rw (drop_of_length-le l {i = k} h) at inv

module _ (l : List ℕ) (k : ℕ) (e : Bool) (inv : distinct (drop k l) ≡ e) where
  pub distinct_more : k < length l → new_to (drop (k + 1) l) (get_or l k 0) ≡ true → distinct (drop (k + 1) l) ≡ e
  unfolding distinct
  distinct_more h t = rw add-one (rw (drop-cons l k 0 h, ← add-one k, t) at inv)

  pub distinct_fails : k < length l → new_to (drop (k + 1) l) (get_or l k 0) ≡ false → false ≡ e
  unfolding distinct
  distinct_fails h t = rw (drop-cons l k 0 h, ← add-one k, t) at inv

  pub distinct_end : length l ≤ k → true ≡ e
  unfolding distinct
  distinct_end h = rw (drop_of_length-le l {i = k} h) at inv
