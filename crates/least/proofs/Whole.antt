-- count on two naturals is the rules' count over the whole numbers. Assumes nothing.
use mathlib.Core.Path.{◌≡◌, refl, ◌∙◌, sym, ap}
use mathlib.Core.Logic.{inl, inr}
use Prim.Native.Nat.{ℕ, zero, suc, ◌+◌, ◌-◌, ◌/◌}
use native.Mathlib.Omega.{arith}
use native.Mathlib.Nat.{add-zero}
use lib.IntN.{ℤ, pos, negsuc, neg_ℤ, sub_ℕ, ◌+ℤ◌, ◌-ℤ◌, +ℤ_assoc, +ℤ_comm, neg_ℤ-+ℤ}
use borrow.Author.Tests.{lt-ltb, le-ltb}
use Rattle.least.specs.Count.{count}
use Rattle.least.specs.Whole.{countℤ}
use Rattle.least.proofs.Count.{le_or-lt, count_in_lem, count_out}

negative : (n t : ℕ) → countℤ (negsuc n) t ≡ 0
unfolding countℤ
negative n t = elim (le_or-lt (suc (n / t)) 1) [
  | inl q ↦ simp (le-ltb 1 (suc (n / t)) q) (omega arith)
  | inr q ↦ simp (lt-ltb 1 (suc (n / t)) q)
]

natural : (n t : ℕ) → countℤ (pos n) t ≡ 1 + n / t
unfolding countℤ
natural n t = refl

of-difference : (a b t : ℕ) → countℤ (sub_ℕ a b) t ≡ count a b t
of-difference a b t = elim (le_or-lt b a) [
  | inl q ↦ rw (le-ltb a b q, count_in_lem a b t q) (natural (a - b) t)
  | inr q ↦ rw (lt-ltb a b q, count_out a b t q) (negative _ t)
]

pub difference : (a b : ℕ) → pos a -ℤ pos b ≡ sub_ℕ a b
difference a zero = rw (le-ltb a 0 (omega arith)) (ap pos (omega arith))
difference a (suc b) = refl

-- count a b T is max(0, 1 + floor((a − b) / T))
pub count-whole : (a b t : ℕ) → countℤ (pos a -ℤ pos b) t ≡ count a b t
count-whole a b t = ap (λ x. countℤ x t) (difference a b) ∙ of-difference a b t

left_comm : (x y z : ℤ) → x +ℤ (y +ℤ z) ≡ y +ℤ (x +ℤ z)
left_comm x y z = sym (+ℤ_assoc x y z) ∙ ap (λ k. k +ℤ z) (+ℤ_comm x y) ∙ +ℤ_assoc y x z

pair_up : (x y z w : ℤ) → (x +ℤ y) +ℤ (z +ℤ w) ≡ (x +ℤ z) +ℤ (y +ℤ w)
pair_up x y z w = +ℤ_assoc x y (z +ℤ w) ∙ ap (λ k. x +ℤ k) (left_comm y z w) ∙ sym (+ℤ_assoc x z (y +ℤ w))

-- a sum of differences: gains first, losses second
pub difference-add : (a b c d : ℕ) → (pos a -ℤ pos b) +ℤ (pos c -ℤ pos d) ≡ pos (a + c) -ℤ pos (b + d)
difference-add a b c d =
    pair_up (pos a) (neg_ℤ (pos b)) (pos c) (neg_ℤ (pos d))
    ∙ ap (λ k. pos (a + c) +ℤ k) (sym (neg_ℤ-+ℤ (pos b) (pos d)))

natural_alone : (c : ℕ) → pos c -ℤ pos 0 ≡ pos c
natural_alone c = difference c 0 ∙ rw (le-ltb c 0 (omega arith)) (ap pos (omega arith))

pub difference_plus : (a b c : ℕ) → (pos a -ℤ pos b) +ℤ pos c ≡ pos (a + c) -ℤ pos b
difference_plus a b c =
    ap (λ x. (pos a -ℤ pos b) +ℤ x) (sym (natural_alone c)) ∙ difference-add a b c 0 ∙ ap (λ x. pos (a + c) -ℤ pos x) (add-zero b)

pub difference_less : (a b c : ℕ) → (pos a -ℤ pos b) -ℤ pos c ≡ pos a -ℤ pos (b + c)
difference_less a b c = +ℤ_assoc (pos a) (neg_ℤ (pos b)) (neg_ℤ (pos c)) ∙ ap (λ x. pos a +ℤ x) (sym (neg_ℤ-+ℤ (pos b) (pos c)))
