-- Numbers stored at places: what they change, and what not. Assumes nothing.
use mathlib.Core.Path.{◌≡◌, refl, sym, ap, ◌∙◌, subst}
use mathlib.Core.Bool.{Bool, true, false}
use mathlib.Core.List.{List, ◌++◌}
use Prim.Native.Nat.{ℕ, ◌+◌, ◌-◌, ◌≤◌, ◌<◌}
use native.Mathlib.Omega.{arith}
use lib.Dec.{eqb}
use lib.ListN.{length, take, drop, replicate, set, length-set}
use lib.Seq.{get_or-set_same, get_or-set_other}
use borrow.Author.Count.{below_more}
use borrow.Author.Tests.{eqb-true, eqb-false}
use Rattle.std.proofs.lemmas.List.{length-replicate, length-take-le, length-append, length-drop, get_or_append_left, get_or-append_right, get_or-replicate, get_or-drop}
use Rattle.least.specs.Lists.{values, Inside, Ahead}

-- a store at k, seen anywhere
pub set_cases : (P : ℕ → ℕ → Type 0) (l : List ℕ) (k v : ℕ) → k < length l → P k v → ((j : ℕ) → (j ≡ k → ⊥) → P j (values l j)) →
    (j : ℕ) → P j (values (set l k v) j)
set_cases P l k v h here there j = go (eqb j k) refl
  where
    go : (b : Bool) → eqb j k ≡ b → P j (values (set l k v) j)
    go true e = subst (λ i. P i (values (set l k v) i)) (sym (eqb-true j k e)) (subst (P k) (sym (get_or-set_same l k v 0 h)) here)
    go false e = subst (P j) (sym (get_or-set_other l k j v 0 (eqb-false j k e))) (there j (eqb-false j k e))

-- one number more is x
pub set_more : (l : List ℕ) (k x : ℕ) → k < length l → ((j : ℕ) → j < k → values l j ≡ x) → (j : ℕ) → j < k + 1 → values (set l k x) j ≡ x
set_more l k x h z =
    below_more (λ j. values (set l k x) j ≡ x) k (λ j q. get_or-set_other l k j x 0 (λ e. omega arith) ∙ z j q) (get_or-set_same l k x 0 h)

pub inside-none : {a b : ℕ} {l : List ℕ} → Inside a b l l
inside-none = record { before = λ k h. refl; behind = λ k h. refl; long = refl }

pub inside-set : (l : List ℕ) (k v : ℕ) → Inside k (k + 1) l (set l k v)
inside-set l k v = record {
  before = λ j h. get_or-set_other l k j v 0 (λ z. omega arith);
  behind = λ j h. get_or-set_other l k j v 0 (λ z. omega arith);
  long = simp length-set;
}

-- one change behind another, both from a up to b
pub inside_then : (a b : ℕ) {c d c' d' : ℕ} {l l' l'' : List ℕ} → a ≤ c → d ≤ b → a ≤ c' → d' ≤ b → Inside c d l l' → Inside c' d' l' l'' → Inside a b l l''
inside_then a b h g h' g' i j = record {
  before = λ k q. j.before k (omega arith) ∙ i.before k (omega arith);
  behind = λ k q. j.behind k (omega arith) ∙ i.behind k (omega arith);
  long = j.long ∙ i.long;
}

pub inside-twice : {a b : ℕ} {l l' l'' : List ℕ} → Inside a b l l' → Inside a b l' l'' → Inside a b l l''
inside-twice {a} {b} = inside_then a b (omega arith) (omega arith) (omega arith) (omega arith)

-- a change, and then a store
pub inside_more : {a b : ℕ} {l₀ l : List ℕ} (k v : ℕ) → a ≤ k → k < b → Inside a b l₀ l → Inside a b l₀ (set l k v)
inside_more {a} {b} {l} k v h g i = inside_then a b (omega arith) (omega arith) h (omega arith) i (inside-set l k v)

-- the first n numbers of a slice filled with x
module _ (l f : List ℕ) (n x : ℕ) (room : n ≤ length l) (is : f ≡ replicate (length (take n l)) x) where
  filled : length f ≡ n
  filled = rw is (omega (arith, length-replicate {A = ℕ} (length (take n l)) x, length-take-le n l room))

  pub filled_all : (k : ℕ) → k < n → values (f ++ drop n l) k ≡ x
  filled_all k h =
      get_or_append_left f (drop n l) 0 k (omega (arith, filled))
      ∙ ap (λ f. values f k) is
      ∙ get_or-replicate (length (take n l)) k x 0 (omega (arith, length-take-le n l room))

  pub filled_inside : Inside 0 n l (f ++ drop n l)
  filled_inside = record {
    before = λ k h. absurd (omega arith);
    behind = λ k h.
        get_or-append_right f (drop n l) n k 0 filled h
        ∙ get_or-drop n l (k - n) 0
        ∙ (let q : n + (k - n) ≡ k = omega arith in ap (values l) q);
    long = simp (length-append, length-drop) (omega (arith, filled));
  }

pub ahead_none : (at : ℕ) (l : List ℕ) → Ahead at l l
ahead_none at l = record { before = λ k r. refl; long = refl }

module _ (at : ℕ) (l₀ l : List ℕ) (h : Ahead at l₀ l) where
  pub ahead_set : (i x : ℕ) → at ≤ i → Ahead at l₀ (set l i x)
  ahead_set i x q = record {
    before = λ k r. get_or-set_other l i k x 0 (λ e. omega arith) ∙ h.before k r;
    long = length-set l i x ∙ h.long;
  }

  pub ahead_then : (l' : List ℕ) (i : ℕ) → at ≤ i → Ahead i l l' → Ahead at l₀ l'
  ahead_then l' i p q = record { before = λ k r. q.before k (omega arith) ∙ h.before k r; long = q.long ∙ h.long }
