-- A list with one element more at its end: its last number, rising numbers, what holds of each.
use Prim.Native.Nat.{ℕ, ◌-◌, ◌<◌}
use mathlib.Core.Path.{◌≡◌, ap, ◌∙◌}
use mathlib.Core.List.{List, [], ◌∷◌, ◌++◌, append-nil}
use native.Mathlib.Omega.{arith}
use lib.ListN.{length, get_or}
use lib.Seq.{get_or-append_seam, append_snoc}
use Rattle.flows.specs.WellFormed.{Each, each_none, each_more}
use Rattle.row.specs.Rows.{RisingBy, rising_none, rising-more}
use Rattle.row.proofs.Arrays.{length_snoc}

pub last_snoc : {A : Type 0} (xs : List A) (x none : A) → get_or (xs ++ (x ∷ [])) (length (xs ++ (x ∷ [])) - 1) none ≡ x
last_snoc xs x none =
    let n : length (xs ++ (x ∷ [])) - 1 ≡ length xs = omega (arith, length_snoc xs x) in
    ap (λ (i : ℕ). get_or (xs ++ (x ∷ [])) i none) n ∙ get_or-append_seam xs x [] none

-- last is the number of a list's last element
module _ {A : Type 0} (number : A → ℕ) (last : List A → ℕ) (of-snoc : (xs : List A) (x : A) → last (xs ++ (x ∷ [])) ≡ number x) where
  pub rising_snoc : (ys xs : List A) (x : A) → RisingBy number (last xs) ys → last (xs ++ ys) < number x → RisingBy number (last xs) (ys ++ (x ∷ []))
  rising_snoc [] xs x r h = rising-more (rw (append-nil xs) at h) rising_none
  rising_snoc (y ∷ ys) xs x (rising-more i r) h =
      rising-more i (rw (of-snoc xs y) at (rising_snoc ys (xs ++ (y ∷ [])) x (rw (of-snoc xs y) r) (rw (append_snoc xs y ys) h)))

pub each_snoc : {A : Type 0} (P : A → Type 0) (l : List A) (x : A) → Each P l → P x → Each P (l ++ (x ∷ []))
each_snoc P [] x e p = each_more p each_none
each_snoc P (y ∷ l) x (each_more q e) p = each_more q (each_snoc P l x e p)
